-- `check_list` meets its contract: no entry passed is refused. From the laws on the first fault of several.
use mathlib.Core.Path.{◌≡◌}
use mathlib.Core.List.{List}
use Prim.Native.Nat.{ℕ, ◌-◌, ◌≤◌}
use lib.ListN.{length}
use Rattle.graph.specs.Finite.{first_of}
use Rattle.graph.specs.Graph.{graph_of}
use Rattle.many.specs.Many.{entry_number}
use Rattle.graph.specs.Literals.{literals}
use Rattle.many.proofs.faults.check_list.Given as goal
use Rattle.graph.specs.Tables.{lent_table}

abbrev pub invariant-loop-j : goal.invariant-loop-j
invariant-loop-j l = (l.j ≤ length l.list) × ((o : ℕ) (os : List ℕ) → first_of l.j (entry_number (graph_of l.inputs l.nodes o (lent_table l.node_table) os) l.locks l.list l.bytes) ≡ 0)
