-- What an index is over three indices taken as free variables: a byte, whose bit k is the value under the assignment k. The
-- first of the three is the lowest bit of k.
use Rattle.std.specs.Prelude.{◌||◌, ◌&&◌, ◌∷◌, ◌++◌, ◌+◌, ◌*◌}
use Rattle.graph.specs.All.{Bool, cond, List, [], map, ℕ, zero, suc, eqb, get_or, tab, if_equal, Graph, node, word, index, is_edge, node_value, bit}
use Rattle.evaluation.specs.All.{gather}

-- three indices
pub record Triple : Type 0 where
  pub one : ℕ
  pub two : ℕ
  pub three : ℕ

abbrev pub triple : ℕ → ℕ → ℕ → Triple
triple x y z = record { one = x; two = y; three = z }

-- no byte: some way down to an input misses all three
abbrev pub leak : ℕ
leak = 256

-- the byte of index i: the three are free, and any other has the byte x
unfoldable pub free : Triple → ℕ → ℕ → ℕ
free t i x = if_equal i t.one 170 (if_equal i t.two 204 (if_equal i t.three 240 x))

-- the word at place j of the node table is an edge to an index that leaks
unfoldable pub leaks : Graph → List ℕ → ℕ → Bool
leaks g bs j = is_edge g j && eqb (get_or bs (index (word g j)) 0) leak

-- the byte of node v from the bytes of lower indices: a leak if one of its words leaks
unfoldable pub node_byte : Graph → List ℕ → ℕ → ℕ
node_byte g bs v =
    cond (leaks g bs (3 * v + 0) || leaks g bs (3 * v + 1) || leaks g bs (3 * v + 2)) leak (gather (λ k. node_value g (map (bit k) bs) v) 8)

-- the bytes of the constant, the inputs and the first n nodes, by index
unfoldable pub over : Graph → Triple → ℕ → List ℕ
over g t zero = 0 ∷ tab g.I (λ k. free t (suc k) leak)
over g t (suc n) = let bs = over g t n in bs ++ (free t (node g n) (node_byte g bs n) ∷ [])

-- the truth value of index u over the triple, or a leak
unfoldable pub truth : Graph → Triple → ℕ → ℕ
truth g t u = get_or (over g t g.N) u 0
