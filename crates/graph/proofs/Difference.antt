-- Differences go by what is counted: equal sums give equal differences, and the machine's subtraction and test are those of counts.
-- Assumes nothing.
use Rattle.std.proofs.Common.{◌≡◌, ℕ, zero, suc, ◌+◌, ◌-◌, ◌<◌, ◌≤◌, T, ltb, ℤ, pos, negsuc, ◌-ℤ◌, nat_abs, sym, refl, ap, ◌∙◌, subst, ⊎_elim, arith, w32, w64, Fits, SFits, to_z, of_z, le-ltb, lt-ltb}
use lib.Signed.{mag, lt_z, non_neg}
use lib.IntN.{sub_ℕ, pos-ne-negsuc}
use mir.ValLaws.{to_z_pos, to_z-of_z}
use Rattle.graph.proofs.Cases.{lt_or_le}
use Rattle.graph.specs.Finite.{difference}

-- the two ways a difference can be
pub at_least : (a b k : ℕ) → a ≡ b + k → difference a b ≡ pos k
unfolding difference
at_least a b k e = let d : a - b ≡ k = omega arith in rw (le-ltb a b (omega arith), d)

pub below : (a b k : ℕ) → b ≡ a + suc k → difference a b ≡ negsuc k
unfolding difference
below a b k e = let d : b - suc a ≡ k = omega arith in rw (lt-ltb a b (omega arith), d)

pub same_difference : (a b c d : ℕ) → a + d ≡ b + c → difference a b ≡ difference c d
same_difference a b c d e =
    ⊎_elim
    (λ (h : a < b). below a b (b - suc a) (omega arith) ∙ sym (below c d (b - suc a) (omega arith)))
    (λ (h : b ≤ a). at_least a b (a - b) (omega arith) ∙ sym (at_least c d (a - b) (omega arith)))
    (lt_or_le a b)

opened : (a b : ℕ) → sub_ℕ a b ≡ difference a b
unfolding difference
opened a b = refl

-- the machine's subtraction of two signed numbers that are not negative is the difference, and it fits
pub less_is : (a b : ℕ) → pos a -ℤ pos b ≡ difference a b
less_is a zero = sym (at_least a 0 (a + 0) (omega arith))
less_is a (suc b) = opened a (suc b)

pub difference_fits : (a b : ℕ) → a < 9223372036854775808 → b < 9223372036854775808 → SFits w64 (difference a b)
difference_fits a b h l =
    ⊎_elim
    (λ (q : a < b). rw (below a b (b - suc a) (omega arith)) (record { sfits = omega arith }))
    (λ (q : b ≤ a). rw (at_least a b (a - b) (omega arith)) (record { sfits = omega arith }))
    (lt_or_le a b)

module _ (a b : ℕ) (h : a < 9223372036854775808) (l : b < 9223372036854775808) where
  machine_less : to_z w64 a -ℤ to_z w64 b ≡ difference a b
  machine_less = ap (λ (z : ℤ). z -ℤ to_z w64 b) (to_z_pos w64 a h) ∙ ap (λ (z : ℤ). pos a -ℤ z) (to_z_pos w64 b l) ∙ less_is a b

  pub less_fits : SFits w64 (to_z w64 a -ℤ to_z w64 b)
  less_fits = subst (λ (z : ℤ). SFits w64 z) (sym machine_less) (difference_fits a b h l)

  pub less_returned : to_z w64 (of_z w64 (to_z w64 a -ℤ to_z w64 b)) ≡ difference a b
  less_returned = to_z-of_z w64 _ less_fits ∙ machine_less

  -- a signed number that went through memory or a field
  pub read_back : (z : ℤ) → z ≡ difference a b → to_z w64 (of_z w64 z) ≡ difference a b
  read_back z e = ap (λ (y : ℤ). to_z w64 (of_z w64 y)) e ∙ to_z-of_z w64 (difference a b) (difference_fits a b h l)

-- what a call returned reads as it was returned
pub read_as_lem : (z : ℤ) → mag z < 9223372036854775808 → to_z w64 (of_z w64 z) ≡ z
read_as_lem z h = to_z-of_z w64 z (record { sfits = h })

-- a signed number that is not negative can be cast to a count
pub counts : (x : ℤ) → SFits w64 x → x ≡ pos (nat_abs x) → nat_abs x < 4294967296 → T (non_neg (to_z w64 (of_z w64 x))) × Fits w32 (nat_abs (to_z w64 (of_z w64 x)))
counts (pos n) f e h = rw (to_z-of_z w64 (pos n) f) (tt, record { fits = h })
counts (negsuc n) f e h = absurd (pos-ne-negsuc _ _ (sym e))

-- the machine's test of two savings from one number is a test of what is left
same_test : (x y b c : ℕ) → (x < y → b < c) → (b < c → x < y) → ltb x y ≡ ltb b c
same_test x y b c f g =
    ⊎_elim
    (λ (h : x < y). lt-ltb x y h ∙ sym (lt-ltb b c (f h)))
    (λ (h : y ≤ x). le-ltb x y h ∙ sym (⊎_elim (λ (k : b < c). absurd (go (g k) h)) (λ (k : c ≤ b). le-ltb b c k) (lt_or_le b c)))
    (lt_or_le x y)
  where
    go : {m n : ℕ} → m < n → n ≤ m → ⊥
    go p q = omega arith

pub greater_is : (a b c : ℕ) → lt_z (difference a b) (difference a c) ≡ ltb c b
greater_is a b c =
    ⊎_elim
    (λ (h : a < b).
    ⊎_elim
    (λ (k : a < c). rw (below a b (b - suc a) (omega arith), below a c (c - suc a) (omega arith)) (same_test (c - suc a) (b - suc a) c b (λ z. omega arith) (λ z. omega arith)))
    (λ (k : c ≤ a). rw (below a b (b - suc a) (omega arith), at_least a c (a - c) (omega arith)) (sym (lt-ltb c b (omega arith))))
    (lt_or_le a c))
    (λ (h : b ≤ a).
    ⊎_elim
    (λ (k : a < c). rw (at_least a b (a - b) (omega arith), below a c (c - suc a) (omega arith)) (sym (le-ltb c b (omega arith))))
    (λ (k : c ≤ a). rw (at_least a b (a - b) (omega arith), at_least a c (a - c) (omega arith)) (same_test (a - b) (a - c) c b (λ z. omega arith) (λ z. omega arith)))
    (lt_or_le a c))
    (lt_or_le a b)
