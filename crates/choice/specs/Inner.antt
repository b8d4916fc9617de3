-- The first of the least, and the order of lists of moves: what proofs and inner functions say, and no promise to a caller.
use Rattle.std.specs.Prelude.{ℕ, ◌≤◌, ◌<◌, List, [], ◌∷◌, map, ◌⊎◌, ◌≡◌}

-- m is the first number below n at which f is least
pub record FirstBelow (f : ℕ → ℕ) (n m : ℕ) : Type 0 where
  pub below : m < n
  pub low : (k : ℕ) → k < n → f m ≤ f k
  pub first : (k : ℕ) → k < m → f m < f k

-- no move anywhere
abbrev pub zeros : List ℕ → List ℕ
zeros ns = map (λ a. 0) ns

infix 20 ◌≺◌
-- the lexicographic order, of lists of one length: less at the first difference
abbrev pub ◌≺◌ : List ℕ → List ℕ → Type 0
[] ≺ [] = ⊥
[] ≺ (y ∷ ys) = ⊥
(x ∷ xs) ≺ [] = ⊥
(x ∷ xs) ≺ (y ∷ ys) = (x < y) ⊎ ((x ≡ y) × (xs ≺ ys))
