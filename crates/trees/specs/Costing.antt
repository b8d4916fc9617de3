-- The costs of a tree's nodes as scratch has them, and as the recursion gives them. What inner functions ask of each other, and
-- no promise to a caller.
use Rattle.std.specs.Prelude.{◌≡◌, Bool, not, ◌&&◌, List, [], ◌∷◌, ◌++◌, ◌≢◌, ℕ, zero, suc, ◌+◌, ◌-◌, ◌*◌, ◌/◌, ◌%◌, ◌≤◌, ◌<◌, ltb, eqb, length, get_or}
use Rattle.graph.specs.Finite.{if_equal}
use Rattle.graph.specs.Graph.{Graph, mark, node}
use Rattle.moves.specs.Tree.{root_of}
use Rattle.choice.specs.Inner.{FirstBelow}
use Rattle.moves.specs.Cost.{inner, bit_cost}
use Rattle.moves.specs.Decide.{cost_with}
use Rattle.state.specs.State.{field}

-- index u is a node that is no root: it has the place of its only reading word
unfoldable pub inner_at : ℕ → List ℕ → ℕ → Bool
inner_at i sc u = ltb i u && not (eqb (field sc (u - (i + 1)) 3) mark)

-- the cost stored for it, shown the bit s
unfoldable pub cost_at : ℕ → List ℕ → ℕ → ℕ → ℕ
cost_at i sc u s = if_equal s 0 (field sc (u - (i + 1)) 4 % 2) (field sc (u - (i + 1)) 4 / 2 % 2)

-- r is what the least of the n moves of a kind x with numbers z of its words and one reader costs, shown the bit s
pub record LeastCost (x : Bool) (n : ℕ) (z : List ℕ) (s r : ℕ) : Type 0 where
  pub move : ℕ
  pub least : FirstBelow (cost_with x z 1 s) n move
  pub cost : r ≡ cost_with x z 1 s move
  pub low : r ≤ 4

-- r has, in two bits, how much each of the two costs exceeds the other
pub record CostBits (x : Bool) (n : ℕ) (z : List ℕ) (r : ℕ) : Type 0 where
  pub zero_cost : ℕ
  pub one_cost : ℕ
  pub zero_least : LeastCost x n z 0 zero_cost
  pub one_least : LeastCost x n z 1 one_cost
  pub bits : r ≡ (zero_cost - one_cost) + 2 * (one_cost - zero_cost)

-- two costs a node, in a list
unfoldable pub cost_in : Graph → List ℕ → ℕ → ℕ → ℕ
cost_in h l u s = get_or l (2 * (u - (h.I + 1)) + s) 0

-- the costs of the first n nodes with the locks ls, each from those of lower ones
unfoldable pub costs : Graph → List ℕ → ℕ → List ℕ
costs h ls zero = []
costs h ls (suc n) = let l = costs h ls n in l ++ (bit_cost h ls (inner h) (cost_in h l) n 0 ∷ bit_cost h ls (inner h) (cost_in h l) n 1 ∷ [])

-- the costs of the non-roots of h
unfoldable pub tree_cost : Graph → List ℕ → ℕ → ℕ → ℕ
tree_cost h ls = cost_in h (costs h ls h.N)

-- the nodes below n of the tree of r have their costs stored
abbrev pub CostedBelow : Graph → List ℕ → List ℕ → ℕ → ℕ → Type 0
CostedBelow h ls sc r n = (v s : ℕ) → v < n → s < 2 → root_of h (node h v) ≡ r → cost_at h.I sc (node h v) s ≡ tree_cost h ls (node h v) s

-- only costs differ
pub record CostsOnly (sc sc' : List ℕ) : Type 0 where
  pub same : length sc' ≡ length sc
  pub kept : (j : ℕ) → j % 8 ≢ 4 → get_or sc' j 0 ≡ get_or sc j 0
