-- `least` is the first of the least of a list, over any type. Assumes nothing.
use Prim.Native.Nat.{ℕ, ◌≤◌, ◌<◌}
use mathlib.Core.Bool.{Bool, true, false, cond}
use mathlib.Core.List.Memᴰ
use mathlib.Core.List.{List, [], ◌∷◌, Memᴰ}
use mathlib.Core.Path.{◌≡◌, refl, ap}
use native.Mathlib.Omega.{arith}
use borrow.Author.Tests.{leb-true, leb-false}
use lib.Dec.{leb}
use Rattle.choice.specs.Choice.{unless_less, least}

-- b is the first of the least of a list
pub data First {A : Type 0} (f : A → ℕ) (b : A) : List A → Type 0 where
  here : {x : A} {xs : List A} → b ≡ x → ((y : A) → Memᴰ y xs → f b ≤ f y) → First f b (x ∷ xs)
  there : {x : A} {xs : List A} → f b < f x → First f b xs → First f b (x ∷ xs)

module _ {A : Type 0} (f : A → ℕ) where
  pub first_mem : {b : A} {xs : List A} → First f b xs → Memᴰ b xs
  first_mem (here e h) = Memᴰ.head e
  first_mem (there l h) = Memᴰ.tail (first_mem h)

  pub first_le : {b : A} {xs : List A} → First f b xs → (y : A) → Memᴰ y xs → f b ≤ f y
  first_le (here e h) y (Memᴰ.head p) = omega (arith, ap f e, ap f p)
  first_le (here e h) y (Memᴰ.tail m) = h y m
  first_le (there l h) y (Memᴰ.head p) = omega (arith, ap f p)
  first_le (there l h) y (Memᴰ.tail m) = first_le h y m

  first_step : (x : A) {r : A} {xs : List A} → First f r xs → First f (unless_less f x r) (x ∷ xs)
  unfolding unless_less
  first_step x {r} {xs} h = go (leb (f x) (f r)) refl
    where
      go : (t : Bool) → leb (f x) (f r) ≡ t → First f (cond t x r) (x ∷ xs)
      go true e = here refl (λ (y : A) (m : Memᴰ y xs). omega (arith, leb-true (f x) (f r) e, first_le h y m))
      go false e = there (leb-false (f x) (f r) e) h

  pub least_first : (d x : A) (xs : List A) → First f (least f d (x ∷ xs)) (x ∷ xs)
  unfolding least
  least_first d x [] = here refl (λ y m. absurd (Memᴰ.not-nil m))
  least_first d x (y ∷ ys) = first_step x (least_first d y ys)
