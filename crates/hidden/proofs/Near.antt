-- What is near an index: the list has what is reached and nothing else, and a rising list is known by what it has. From the definitions.
use mathlib.Core.Path.{◌≡◌, refl, sym, ap₂, ◌∙◌}
use mathlib.Core.Bool.{true, false, true≢false, ◌||◌, or-false}
use mathlib.Core.Logic.{⊎_elim, ◌≢◌}
use mathlib.Core.List.{List, [], ◌∷◌, ◌++◌}
use Prim.Native.Nat.{ℕ, zero, suc, ◌≤◌, ◌<◌}
use native.Mathlib.Omega.{arith}
use native.Mathlib.Nat.{eq-or-lt_of_le}
use borrow.Author.Tests.{eqb-true, eq-eqb, ne_eqb}
use lib.Dec.{eqb}
use Rattle.graph.specs.Graph.{Graph}
use Rattle.graph.proofs.Cases.{true_or_false, eq_or_ne, lt_or_le}
use Rattle.hidden.specs.Find.{reaches, near_below}
use Rattle.hidden.specs.Inner.{Between, has}
use Rattle.hidden.proofs.Bools.{true_left, true_right}

has_append : (i : ℕ) (xs ys : List ℕ) → has i (xs ++ ys) ≡ (has i xs || has i ys)
has_append i [] ys = refl
has_append i (x ∷ xs) ys =
    ⊎_elim (λ (e : eqb i x ≡ true). rw e) (λ (e : eqb i x ≡ false). rw e (has_append i xs ys)) (true_or_false (eqb i x))

-- the members of near: those that are reached
pub near_past : (g : Graph) (u n i : ℕ) → n < i → has i (near_below g u n) ≡ false
unfolding near_below
near_past g u zero i h = refl
near_past g u (suc n) i h =
    ⊎_elim
    (λ (e : reaches g 3 u (suc n) ≡ true). rw (e, has_append, near_past g u n i (omega arith), ne_eqb i (suc n) (omega arith)))
    (λ (e : reaches g 3 u (suc n) ≡ false). rw e (near_past g u n i (omega arith)))
    (true_or_false (reaches g 3 u (suc n)))

pub near_has : (g : Graph) (u n i : ℕ) → 0 < i → i ≤ n → has i (near_below g u n) ≡ reaches g 3 u i
unfolding near_below
near_has g u zero i p h = absurd (omega arith)
near_has g u (suc n) i p h =
    ⊎_elim
    (λ (q : i ≡ suc n).
    rw q (⊎_elim
    (λ (e : reaches g 3 u (suc n) ≡ true). rw (e, has_append) (true_right (has (suc n) (near_below g u n)) _ (rw (eq-eqb (suc n) (suc n) refl))))
    (λ (e : reaches g 3 u (suc n) ≡ false). rw e (near_past g u n (suc n) (omega arith)))
    (true_or_false (reaches g 3 u (suc n)))))
    (λ (q : i ≢ suc n).
    ⊎_elim
    (λ (e : reaches g 3 u (suc n) ≡ true). rw (e, has_append, ne_eqb i (suc n) q, or-false) (near_has g u n i p (omega arith)))
    (λ (e : reaches g 3 u (suc n) ≡ false). rw e (near_has g u n i p (omega arith)))
    (true_or_false (reaches g 3 u (suc n))))
    (eq_or_ne i (suc n))

-- a rising list has nothing up to lo
pub has_low : (lo hi i : ℕ) (l : List ℕ) → Between lo hi l → i ≤ lo → has i l ≡ false
has_low lo hi i [] b h = refl
has_low lo hi i (x ∷ xs) b h = rw (ne_eqb i x (omega arith)) (has_low x hi i xs b.2 (omega arith))

has_head : (x : ℕ) (xs : List ℕ) → has x (x ∷ xs) ≡ true
has_head x xs = true_left (eqb x x) (has x xs) (eq-eqb x x refl)

same_tail : (x hi : ℕ) (xs ys : List ℕ) → Between x hi xs → Between x hi ys → (i : ℕ) → has i (x ∷ xs) ≡ has i (x ∷ ys) → has i xs ≡ has i ys
same_tail x hi xs ys a b i s =
    ⊎_elim
    (λ (e : eqb i x ≡ true). let q = eqb-true i x e in has_low x hi i xs a (omega arith) ∙ sym (has_low x hi i ys b (omega arith)))
    (λ (e : eqb i x ≡ false). rw e at s)
    (true_or_false (eqb i x))

-- and is known by its members
pub rising_only : (lo hi : ℕ) (l m : List ℕ) → Between lo hi l → Between lo hi m → ((i : ℕ) → has i l ≡ has i m) → l ≡ m
rising_only lo hi [] [] a b s = refl
rising_only lo hi [] (y ∷ ys) a b s = absurd (true≢false (sym (has_head y ys) ∙ sym (s y)))
rising_only lo hi (x ∷ xs) [] a b s = absurd (true≢false (sym (has_head x xs) ∙ s x))
rising_only lo hi (x ∷ xs) (y ∷ ys) a b s =
    ⊎_elim
    (λ (k : x < y). absurd (true≢false (sym (has_head x xs) ∙ s x ∙ has_low x hi x (y ∷ ys) (k, b.1, b.2) (omega arith))))
    (λ (k : y ≤ x).
    ⊎_elim
    (λ (q : y ≡ x).
    ap₂ (λ (z : ℕ) (zs : List ℕ). z ∷ zs) (sym q)
    (rising_only x hi xs ys a.2 (rw q at b.2) (λ i. same_tail x hi xs ys a.2 (rw q at b.2) i (rw q at (s i)))))
    (λ (p : y < x). absurd (true≢false (sym (has_head y ys) ∙ sym (s y) ∙ has_low y hi y (x ∷ xs) (p, a.1, a.2) (omega arith))))
    (eq-or-lt_of_le k))
    (lt_or_le x y)
