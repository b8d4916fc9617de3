-- A way down from an index to an input, word by word, and whether it misses a triple.
use Rattle.std.specs.Prelude.{◌≢◌, ◌≡◌, ◌∷◌, ◌+◌, ◌*◌, ◌≤◌, ◌<◌}
use Rattle.graph.specs.All.{true, List, [], ℕ, Graph, node, word, index, is_edge}
use Rattle.hidden.specs.Truth.{Triple}

-- index i is none of the three
pub record Misses (t : Triple) (i : ℕ) : Type 0 where
  pub one : i ≢ t.one
  pub two : i ≢ t.two
  pub three : i ≢ t.three

-- index i is a node's, one of whose words names j
pub record Reads (g : Graph) (i j : ℕ) : Type 0 where
  pub v : ℕ
  pub within : v < g.N
  pub is : i ≡ node g v
  pub k : ℕ
  pub word_of : k < 3
  pub edge : is_edge g (3 * v + k) ≡ true
  pub names : index (word g (3 * v + k)) ≡ j

-- from i over the indices ps down to an input
abbrev pub Way : Graph → ℕ → List ℕ → Type 0
Way g i [] = (0 < i) × (i ≤ g.I)
Way g i (j ∷ ps) = Reads g i j × Way g j ps

-- each index of it is none of the three
abbrev pub AllMiss : Triple → ℕ → List ℕ → Type 0
AllMiss t i [] = Misses t i
AllMiss t i (j ∷ ps) = Misses t i × AllMiss t j ps

-- some way down from i to an input misses all three
pub record MissedWay (g : Graph) (t : Triple) (i : ℕ) : Type 0 where
  pub over : List ℕ
  pub way : Way g i over
  pub misses : AllMiss t i over
