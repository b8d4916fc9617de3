-- A decimal number that is followed by a space or a newline is read back, and what follows it is left. From the laws on decimal text.
use Prim.Native.Nat.{ℕ, zero, suc, ◌+◌, ◌*◌, ◌/◌, ◌%◌, ◌<◌, ◌≤◌}
use mathlib.Core.Path.{◌≡◌, refl, sym, ap, ◌∙◌}
use mathlib.Core.Logic.{⊎_elim}
use mathlib.Core.List.{List, ◌∷◌, ◌++◌, append_assoc}
use native.Mathlib.Omega.{arith}
use native.Mathlib.Nat.{not-suc-le-zero}
use lib.ListN.{length, get_or}
use lib.Seq.{get_or-append_seam, drop-append-add}
use Rattle.graph.specs.Finite.{decimal}
use Rattle.graph.proofs.Cases.{lt_or_le}
use Rattle.graph.proofs.Digits.{decimal_small, decimal_more, length_small, length_more, length_some}
use Rattle.graph.proofs.Tests.{less, no_less, equal, unequal}
use Rattle.aiger.specs.Lines.{if_digit, digits, worth, number, ended_number, next}
use Rattle.aiger.specs.Export.{ended}

pub is_digit : (b x y : ℕ) → 48 ≤ b → b < 58 → if_digit b x y ≡ x
unfolding if_digit
is_digit b x y h l = sym (no_less b 48 _ _ h (less b 58 _ _ l refl))

pub no_digit : (b x y : ℕ) → b < 48 → if_digit b x y ≡ y
unfolding if_digit
no_digit b x y h = sym (less b 48 _ _ h refl)

-- one digit
worth_digit : (m d n : ℕ) (t : List ℕ) → d < 10 → 10 * m + d ≡ n → worth m ((48 + d) ∷ t) ≡ worth n t
unfolding worth
worth_digit m d n t h e = is_digit (48 + d) _ _ (omega arith) (omega arith) ∙ ap (λ (k : ℕ). worth k t) (omega arith)

digits_digit : (d : ℕ) (t : List ℕ) → d < 10 → digits ((48 + d) ∷ t) ≡ suc (digits t)
unfolding digits
digits_digit d t h = is_digit (48 + d) _ _ (omega arith) (omega arith)

-- all digits of a number, by its last; f is above it
worth_all : (f n : ℕ) → n < f → (t : List ℕ) → worth 0 (decimal n ++ t) ≡ worth n t
worth_all zero n h t = absurd (not-suc-le-zero h)
worth_all (suc f) n h t =
    ⊎_elim
    (λ (k : n < 10). rw (decimal_small n k) (worth_digit 0 n n t k (omega arith)))
    (λ (k : 10 ≤ n).
    rw (decimal_more n k, append_assoc)
    (worth_all f (n / 10) (omega arith) ((48 + n % 10) ∷ t) ∙ worth_digit (n / 10) (n % 10) n t (omega arith) (omega arith)))
    (lt_or_le n 10)

digits_all : (f n : ℕ) → n < f → (t : List ℕ) → digits (decimal n ++ t) ≡ length (decimal n) + digits t
digits_all zero n h t = absurd (not-suc-le-zero h)
digits_all (suc f) n h t =
    ⊎_elim
    (λ (k : n < 10). rw (decimal_small n k) (omega (arith, digits_digit n t k)))
    (λ (k : 10 ≤ n).
    let m = length_more n k in
    let r = digits_all f (n / 10) (omega arith) ((48 + n % 10) ∷ t) in
    let d = digits_digit (n % 10) t (omega arith) in
    let e : digits (decimal n ++ t) ≡ digits (decimal (n / 10) ++ ((48 + n % 10) ∷ t)) = rw (decimal_more n k, append_assoc) in
    omega arith)
    (lt_or_le n 10)

-- no leading zero
first_digit : (f n : ℕ) → n < f → 1 ≤ n → (t : List ℕ) → 49 ≤ get_or (decimal n ++ t) 0 0
first_digit zero n h l t = absurd (not-suc-le-zero h)
first_digit (suc f) n h l t =
    ⊎_elim
    (λ (k : n < 10). rw (decimal_small n k) (omega arith))
    (λ (k : 10 ≤ n). rw (decimal_more n k, append_assoc) (first_digit f (n / 10) (omega arith) (omega arith) ((48 + n % 10) ∷ t)))
    (lt_or_le n 10)

-- a byte that ends a number
module _ (n end : ℕ) (rest : List ℕ) (h : end < 48) where
  digits_ended : digits (ended n end rest) ≡ length (decimal n)
  unfolding ended digits
  digits_ended = let z = no_digit end (suc (digits rest)) 0 h in omega (arith, digits_all (suc n) n (omega arith) (end ∷ rest))

  pub number_ended : number (ended n end rest) ≡ n
  unfolding ended number worth
  number_ended = worth_all (suc n) n (omega arith) (end ∷ rest) ∙ no_digit end _ n h

  end_ended : get_or (ended n end rest) (digits (ended n end rest)) 0 ≡ end
  unfolding ended
  end_ended = rw digits_ended (get_or-append_seam (decimal n) end rest 0)

  pub next_ended : next (ended n end rest) ≡ rest
  unfolding ended next
  next_ended =
      let e : suc (digits (ended n end rest)) ≡ length (decimal n) + 1 = omega (arith, digits_ended) in
      rw e (drop-append-add (decimal n) (end ∷ rest) 1)

  zero_ended : n < 1 → digits (ended n end rest) ≤ 1
  zero_ended l = omega (arith, digits_ended, length_small n (omega arith))

  zero_first : n < 1 → get_or (ended n end rest) 0 0 ≡ 48
  unfolding ended
  zero_first l = let k : n < 10 = omega arith in rw (decimal_small n k) (omega arith)

  some_ended : 1 ≤ n → get_or (ended n end rest) 0 0 ≡ 48 → ⊥
  unfolding ended
  some_ended l e = omega (arith, first_digit (suc n) n (omega arith) l (end ∷ rest))

  pub fault_ended : n < 4294967296 → ended_number end (ended n end rest) ≡ 0
  unfolding ended_number
  fault_ended l =
      let s : List ℕ = ended n end rest in
      sym (less 0 (digits s) _ _ (omega (arith, digits_ended, length_some n))
      (less (number s) 4294967296 _ _ (omega (arith, number_ended))
      (equal (get_or s (digits s) 0) end _ _ end_ended
      (⊎_elim
      (λ (z : n < 1). equal (get_or s 0 0) 48 _ _ (zero_first z) (no_less 1 (digits s) _ _ (zero_ended z) refl))
      (λ (z : 1 ≤ n). unequal (get_or s 0 0) 48 _ _ (some_ended z) refl)
      (lt_or_le n 1)))))
