-- `cells::node_cells` meets its contract: the sum over the nodes passed, at most 12 a node. From its callees' contracts.
use mathlib.Core.Path.{◌≡◌}
use mathlib.Core.List.{List, []}
use Prim.Native.Nat.{ℕ, ◌*◌, ◌≤◌}
use Rattle.graph.specs.Finite.{sum}
use Rattle.graph.specs.Graph.{graph_of}
use Rattle.class_figures.specs.Figures.{kind_cells}
use Rattle.class_figures.proofs.cells.node_cells.Given as goal
use Rattle.graph.specs.Tables.{lent_table}

abbrev pub so_far : ℕ → List ℕ → ℕ → ℕ
so_far n ns v = sum v (kind_cells (graph_of 0 n 0 ns []))

abbrev pub invariant-loop-v : goal.invariant-loop-v
invariant-loop-v l = (l.v ≤ l.nodes) × (l.cells ≤ 12 * l.v) × (l.cells ≡ so_far l.nodes (lent_table l.node_table) l.v)
