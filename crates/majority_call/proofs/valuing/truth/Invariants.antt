-- `truth` meets its contract. The invariant: what scratch has is true, the last node valued has its value, and links lead from it up to the
-- node asked for. From the laws on the stack.
use Prim.Native.Nat.{◌+◌}
use Rattle.evaluation.specs.Inner.{nodes_of}
use Rattle.hidden.specs.Truth.{triple}
use Rattle.majority_call.specs.Valuing.{unvalued}
use Rattle.majority_call.proofs.Stacked.{Rising}
use Rattle.majority_call.proofs.valuing.truth.Given as goal
use Rattle.graph.specs.Tables.{lent_table}

abbrev pub invariant-loop-v : goal.invariant-loop-v
invariant-loop-v l = Rising (nodes_of l.inputs l.nodes (lent_table l.node_table)) (triple l.one l.two l.three) l.u l.v l.initial.scratch l.scratch

abbrev pub decreases-loop-v : goal.decreases-loop-v
decreases-loop-v l = unvalued l.scratch (triple l.one l.two l.three) (l.u + 1)
