-- `value_one` meets its contract. The invariant: links lead up from the node reached, which has been looked at. From the laws on the stack.
use Rattle.evaluation.specs.Inner.{nodes_of}
use Rattle.hidden.specs.Truth.{triple}
use Rattle.majority_call.proofs.Stacked.{Going}
use Rattle.majority_call.proofs.valuing.value_one.Given as goal
use Rattle.graph.specs.Tables.{lent_table}

abbrev pub invariant-loop-seen : goal.invariant-loop-seen
invariant-loop-seen l =
    Going (nodes_of l.inputs l.nodes (lent_table l.node_table)) (triple l.one l.two l.three) l.start l.v l.initial.scratch l.scratch l.seen

abbrev pub decreases-loop-seen : goal.decreases-loop-seen
decreases-loop-seen l = l.v
