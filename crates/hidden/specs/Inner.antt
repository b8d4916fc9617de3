-- What proofs and inner functions say of triples and of what is near. No promise to a caller.
use Rattle.std.specs.Prelude.{◌||◌, ◌∷◌, ◌++◌, ◌<◌}
use Rattle.graph.specs.All.{Bool, false, List, [], map, ℕ, suc, eqb, get_or, drop}
use Rattle.hidden.specs.Truth.{Triple, triple}
use Rattle.hidden.specs.Find.{pairs, triples}

-- three rising indices other than 0 below u
pub record Rising (t : Triple) (u : ℕ) : Type 0 where
  pub positive : 0 < t.one
  pub second : t.one < t.two
  pub third : t.two < t.three
  pub below : t.three < u

-- a list rises, from above lo to below hi
abbrev pub Between : ℕ → ℕ → List ℕ → Type 0
Between lo hi [] = Unit {0}
Between lo hi (x ∷ xs) = (lo < x) × (x < hi) × Between x hi xs

-- i is in the list
abbrev pub has : ℕ → List ℕ → Bool
has i [] = false
has i (x ∷ xs) = eqb i x || has i xs

-- the triples of a list that are left where three loops go through them: where the lowest is at place a; where the second is at place b; where
-- the third is at place c
unfoldable pub left₁ : List ℕ → ℕ → List Triple
left₁ l a = triples (drop a l)

unfoldable pub left₂ : List ℕ → ℕ → ℕ → List Triple
left₂ l a b = pairs (get_or l a 0) (drop b l) ++ left₁ l (suc a)

unfoldable pub left₃ : List ℕ → ℕ → ℕ → ℕ → List Triple
left₃ l a b c = map (λ z. triple (get_or l a 0) (get_or l b 0) z) (drop c l) ++ left₂ l a (suc b)
