-- A choice of moves, applied in one step.
use Rattle.std.specs.Prelude.{◌+◌, ◌-◌, ◌*◌, ◌/◌, ◌%◌, ◌&&◌, ◌∷◌}
use Rattle.graph.specs.All.{ℕ, cond, List, [], eqb, ltb, Graph, node, word, output, index, is_xor, is_edge, turned_by}
use Rattle.moves.specs.Rows.{flag}

-- a choice gives each node, by index, a move number; a node that is not concerned has move 0
abbrev pub Choice : Type 0
Choice = ℕ → ℕ

-- no node is concerned
abbrev pub none : Choice
none u = 0

-- d, with move k at index u
unfoldable pub at : Choice → ℕ → ℕ → Choice
at d u k w = cond (eqb w u) k (d w)

-- d, with a list of moves at a list of nodes
unfoldable pub put : Choice → List ℕ → List ℕ → Choice
put d [] ms = d
put d (u ∷ us) [] = d
put d (u ∷ us) (k ∷ ms) = put (at d u k) us ms

-- whether the readers of index u are turned: they are where u is a node whose move says so
unfoldable pub seen : Graph → Choice → ℕ → ℕ
seen g m u = cond (ltb g.I u && ltb u (g.I + 1 + g.N)) (flag (is_xor g (u - (g.I + 1))) (m u) 3) 0

-- whether the word at place j of the node table is turned by its own node's move
unfoldable pub own : Graph → Choice → ℕ → ℕ
own g m j = flag (is_xor g (j / 3)) (m (node g (j / 3))) (j % 3)

-- how often the word at place j is turned: the mark, and what stands past the graph, never
unfoldable pub turns : Graph → Choice → ℕ → ℕ
turns g m j = cond (ltb j (3 * g.N)) (cond (is_edge g j) (own g m j + seen g m (index (word g j))) 0) 0

unfoldable pub output_turns : Graph → Choice → ℕ → ℕ
output_turns g m j = cond (ltb j g.O) (seen g m (index (output g j))) 0

unfoldable pub apply : Graph → Choice → Graph
apply g m = turned_by g (turns g m) (output_turns g m)
