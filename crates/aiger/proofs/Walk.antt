-- What code that walks over the bytes needs: a number read digit by digit, the end of a number, and one number further on.
-- From the laws on tests.
use Prim.Native.Nat.{ℕ, zero, suc, ◌+◌, ◌-◌, ◌*◌, ◌<◌, ◌≤◌}
use mathlib.Core.Path.{◌≡◌, refl, sym}
use mathlib.Core.Logic.{⊎_elim}
use mathlib.Core.List.{List, [], ◌∷◌}
use native.Mathlib.Omega.{arith}
use lib.ListN.{length, get_or, drop, get_or-eq_default, drop_of_length-le}
use lib.Seq.{drop-cons}
use Rattle.graph.proofs.Cases.{lt_or_le}
use Rattle.graph.proofs.Tests.{no_less, on, is}
use Rattle.aiger.specs.Lines.{if_digit, digits, worth, number, ended_number, next, skip}
use Rattle.aiger.proofs.ReadNumber.{is_digit, no_digit}

pub high_digit : (b x y : ℕ) → 58 ≤ b → if_digit b x y ≡ y
unfolding if_digit
high_digit b x y h = sym (no_less b 48 _ _ (omega arith) (no_less b 58 _ _ h refl))

-- place p, with the digits before it worth n
module _ (s : List ℕ) (p n : ℕ) where
  module _ (h : p < length s) (l : 48 ≤ get_or s p 0) (m : get_or s p 0 < 58) where
    pub worth_step : worth (10 * n + (get_or s p 0 - 48)) (drop (suc p) s) ≡ worth n (drop p s)
    unfolding worth
    worth_step = rw (drop-cons s p 0 h) (sym (is_digit (get_or s p 0) _ n l m))

    pub digits_step : suc (digits (drop (suc p) s)) ≡ digits (drop p s)
    unfolding digits
    digits_step = rw (drop-cons s p 0 h) (sym (is_digit (get_or s p 0) _ 0 l m))

  -- a byte that is no digit, and the end
  pub worth_low : p < length s → get_or s p 0 < 48 → worth n (drop p s) ≡ n
  unfolding worth
  worth_low h l = rw (drop-cons s p 0 h) (no_digit (get_or s p 0) _ n l)

  pub worth_high : p < length s → 58 ≤ get_or s p 0 → worth n (drop p s) ≡ n
  unfolding worth
  worth_high h l = rw (drop-cons s p 0 h) (high_digit (get_or s p 0) _ n l)

  pub worth_end : length s ≤ p → worth n (drop p s) ≡ n
  unfolding worth
  worth_end h = rw (drop_of_length-le s {i = p} h)

  pub digits_low : p < length s → get_or s p 0 < 48 → digits (drop p s) ≡ 0
  unfolding digits
  digits_low h l = rw (drop-cons s p 0 h) (no_digit (get_or s p 0) _ 0 l)

  pub digits_high : p < length s → 58 ≤ get_or s p 0 → digits (drop p s) ≡ 0
  unfolding digits
  digits_high h l = rw (drop-cons s p 0 h) (high_digit (get_or s p 0) _ 0 l)

  pub digits_end : length s ≤ p → digits (drop p s) ≡ 0
  unfolding digits
  digits_end h = rw (drop_of_length-le s {i = p} h)

-- a number only grows by more digits, so that one above the limit may be left unread
either : (b x y m : ℕ) → m ≤ x → m ≤ y → m ≤ if_digit b x y
either b x y m h k =
    ⊎_elim
    (λ (l : b < 48). rw (no_digit b x y l) k)
    (λ (l : 48 ≤ b). ⊎_elim (λ (u : b < 58). rw (is_digit b x y l u) h) (λ (u : 58 ≤ b). rw (high_digit b x y u) k) (lt_or_le b 58))
    (lt_or_le b 48)

pub worth_grows : (s : List ℕ) (n : ℕ) → n ≤ worth n s
unfolding worth
worth_grows [] n = omega arith
worth_grows (b ∷ s) n = either b _ n n (omega (arith, worth_grows s (10 * n + (b - 48)))) (omega arith)

-- a number without a fault ends before the bytes do
pub ended_inside : (end : ℕ) (s : List ℕ) → 0 < end → ended_number end s ≡ 0 → digits s < length s
unfolding ended_number
ended_inside end s h e =
    let a = on 0 (digits s) 9 _ e in
    let b = on (number s) 4294967296 9 _ a.1 in
    let c = is (get_or s (digits s) 0) end 9 _ b.1 in
    ⊎_elim
    (λ (l : digits s < length s). l)
    (λ (l : length s ≤ digits s). absurd (omega (arith, c.0, get_or-eq_default s 0 {n = digits s} l)))
    (lt_or_le (digits s) (length s))

pub skip_next : (k : ℕ) (s : List ℕ) → skip (suc k) s ≡ next (skip k s)
skip_next zero s = refl
skip_next (suc k) s = skip_next k (next s)
