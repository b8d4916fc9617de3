-- `rest_faults` meets its contract: the sum over the nodes passed. From the law of one node more.
use Rattle.std.proofs.Common.{◌≡◌, ◌+◌, ◌*◌, ◌/◌, ◌≤◌}
use Rattle.graph.specs.Finite.{sum}
use Rattle.graph.specs.Inner.{fault_at}
use Rattle.graph.proofs.faults.rest_faults.Given as goal

abbrev pub invariant-loop-v : goal.invariant-loop-v
invariant-loop-v l =
    (l.v ≤ l.nodes)
    × (l.c ≤ 2051 * l.v)
    × (sum (12 * (l.nodes / 4)) (fault_at l.inputs l.node_table.indices.now l.node_table.bits.now) + l.c ≡ sum (3 * l.v) (fault_at l.inputs l.node_table.indices.now l.node_table.bits.now))
