-- The eight functions of majority's class, and the node that is made a majority.
use Rattle.std.specs.Prelude.{set, ◌+◌, ◌-◌, ◌*◌, ◌%◌}
use Rattle.graph.specs.All.{Bool, ℕ, eqb, get_or, Graph, graph_of, majority, bit}
use Rattle.moves.specs.All.{last}
use Rattle.evaluation.specs.All.{gather}
use Rattle.hidden.specs.Truth.{Triple, truth}
use Rattle.hidden.specs.Class.{classes}

-- the byte of the majority of the three variables, variable j complemented where bit j of c says so
unfoldable pub majority_byte : ℕ → ℕ
majority_byte c = gather (λ k. majority ((bit 0 k + bit 0 c) % 2) ((bit 1 k + bit 1 c) % 2) ((bit 2 k + bit 2 c) % 2)) 8

-- the class of the majority 232
abbrev pub majority_class : ℕ
majority_class = 23

-- the byte f is of majority's class; a leak is not
unfoldable pub is_majority : ℕ → Bool
is_majority f = eqb (get_or classes f 0) majority_class

-- the complements that make f the majority, for an f of its class
unfoldable pub complements : ℕ → ℕ
complements f = last 8 (λ c. eqb (majority_byte c) f)

-- g with three new words at node v
unfoldable pub rewired : Graph → ℕ → ℕ → ℕ → ℕ → Graph
rewired g v x y z = graph_of g.I g.N g.O (set (set (set g.nodes (3 * v) x) (3 * v + 1) y) (3 * v + 2) z) g.outputs

-- g with the index u made the majority of the three, complemented by c
unfoldable pub majority_of : Graph → Triple → ℕ → ℕ → Graph
majority_of g t u c = rewired g (u - (g.I + 1)) (2 * t.one + bit 0 c) (2 * t.two + bit 1 c) (2 * t.three + bit 2 c)

unfoldable pub made : Graph → Triple → ℕ → Graph
made g t u = majority_of g t u (complements (truth g t u))
