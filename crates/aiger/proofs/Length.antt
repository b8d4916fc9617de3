-- How long a number is in the text: its digits and the byte after it, and its digits by the powers of ten. From the laws on decimal text.
use Prim.Native.Nat.{ℕ, zero, suc, ◌+◌, ◌*◌, ◌/◌, ◌<◌, ◌≤◌}
use mathlib.Core.Path.{◌≡◌, refl, sym, ◌∙◌}
use mathlib.Core.Logic.{⊎_elim}
use mathlib.Core.List.{List, ◌∷◌}
use native.Mathlib.Omega.{arith}
use lib.ListN.{length, length-append}
use Rattle.graph.specs.Finite.{if_less, decimal}
use Rattle.graph.proofs.Answers.{if_less_le}
use Rattle.graph.proofs.Cases.{lt_or_le}
use Rattle.graph.proofs.Digits.{length_small, length_more}
use Rattle.graph.proofs.Tests.{less, no_less}
use Rattle.aiger.specs.Export.{ended}

-- the bytes of a number with the byte after it
abbrev pub width : ℕ → ℕ
width n = length (decimal n) + 1

pub length_ended : (n end : ℕ) (rest : List ℕ) → length (ended n end rest) ≡ width n + length rest
unfolding ended
length_ended n end rest = omega (arith, length-append (decimal n) (end ∷ rest))

-- 1 where n is not below p
abbrev pub past : ℕ → ℕ → ℕ
past p n = if_less {A = ℕ} n p 0 1

past_no : (p n : ℕ) → n < p → past p n ≡ 0
past_no p n h = sym (less n p _ _ h refl)

past_yes : (p n : ℕ) → p ≤ n → past p n ≡ 1
past_yes p n h = sym (no_less n p _ _ h refl)

past_ten : (p n : ℕ) → past (10 * p) n ≡ past p (n / 10)
past_ten p n =
    ⊎_elim
    (λ (h : n < 10 * p). past_no (10 * p) n h ∙ sym (past_no p (n / 10) (omega arith)))
    (λ (h : 10 * p ≤ n). past_yes (10 * p) n h ∙ sym (past_yes p (n / 10) (omega arith)))
    (lt_or_le n (10 * p))

-- how many of d powers of ten, from p on, the number n reaches
unfoldable pub reached : ℕ → ℕ → ℕ → ℕ
reached zero p n = 0
reached (suc d) p n = past p n + reached d (10 * p) n

reached_ten : (d p n : ℕ) → reached d (10 * p) n ≡ reached d p (n / 10)
unfolding reached
reached_ten zero p n = refl
reached_ten (suc d) p n = omega (arith, past_ten p n, reached_ten d (10 * p) n)

reached_none : (d p n : ℕ) → n < p → reached d p n ≡ 0
unfolding reached
reached_none zero p n h = refl
reached_none (suc d) p n h = omega (arith, past_no p n h, reached_none d (10 * p) n (omega arith))

unfoldable pub power : ℕ → ℕ
power zero = 10
power (suc d) = 10 * power d

-- a number's digits are one more than the powers of ten that it reaches
pub width_reached : (d n : ℕ) → n < power d → length (decimal n) ≡ 1 + reached d 10 n
unfolding power reached
width_reached zero n h = length_small n h
width_reached (suc d) n h =
    ⊎_elim
    (λ (k : n < 10). omega (arith, length_small n k, past_no 10 n k, reached_none d 100 n (omega arith)))
    (λ (k : 10 ≤ n). omega (arith, length_more n k, past_yes 10 n k, reached_ten d 10 n, width_reached d (n / 10) (omega arith)))
    (lt_or_le n 10)

-- and so a number below a power of ten has no more digits than that
reached_most : (d p n : ℕ) → reached d p n ≤ d
unfolding reached
reached_most zero p n = omega arith
reached_most (suc d) p n = omega (arith, if_less_le n p 0 1 1 (omega arith) (omega arith), reached_most d (10 * p) n)

pub digits_most : (d n : ℕ) → n < power d → length (decimal n) ≤ 1 + d
digits_most d n h = omega (arith, width_reached d n h, reached_most d 10 n)
