-- `front::front_nodes` meets its contract. The invariant: the words of the nodes passed are filled in. From the contract of one.
use mathlib.Core.Path.{◌≡◌}
use mathlib.Core.List.{List}
use Prim.Native.Nat.{ℕ, ◌-◌, ◌≤◌}
use lib.ListN.{length}
use Rattle.evaluation.specs.Inner.{nodes_of, Front}
use Rattle.evaluation.proofs.front.front_nodes.Given as goal
use Rattle.graph.specs.Tables.{lent_table}

abbrev pub invariant-loop-v : goal.invariant-loop-v
invariant-loop-v l =
    (l.v ≤ l.end) × (length l.scratch ≡ length l.initial.scratch)
    × ((n : ℕ) (ws : List ℕ) → Front (nodes_of l.lent.inputs n (lent_table l.lent.node_table)) ws l.initial.scratch l.begin → Front (nodes_of l.lent.inputs n (lent_table l.lent.node_table)) ws l.scratch l.v)

abbrev pub decreases-loop-v : goal.decreases-loop-v
decreases-loop-v l = l.end - l.v
