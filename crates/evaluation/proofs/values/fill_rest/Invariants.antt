-- `values::fill_rest` meets its contract. The invariant: the words of the nodes passed are filled in. From the contract of one.
use mathlib.Core.Path.{◌≡◌}
use Prim.Native.Nat.{◌≤◌}
use lib.ListN.{length}
use Rattle.evaluation.specs.Inner.{Filled}
use Rattle.evaluation.proofs.values.fill_rest.Given as goal
use Rattle.graph.specs.Tables.{lent_table}

abbrev pub invariant-loop-v : goal.invariant-loop-v
invariant-loop-v l =
    (l.v ≤ l.end) × (length l.scratch ≡ length l.initial.scratch) × Filled l.lent.inputs (lent_table l.lent.node_table) l.input_words l.initial.scratch l.begin l.scratch l.v
