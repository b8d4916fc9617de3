-- `four_faults` meets its contract: the four sums together count the faults of the nodes passed. From the law of four nodes more.
use Rattle.std.proofs.Common.{◌≡◌, ◌+◌, ◌*◌, ◌/◌, ◌≤◌}
use Rattle.graph.specs.Finite.{sum}
use Rattle.graph.specs.Inner.{fault_at, Counts}
use Rattle.graph.proofs.faults.four_faults.Given as goal

abbrev pub invariant-loop-j : goal.invariant-loop-j
invariant-loop-j l =
    (l.turns ≡ l.nodes / 4)
    × (l.j ≤ l.turns)
    × (l.first ≤ 2051 * l.j)
    × (l.second ≤ 2051 * l.j)
    × (l.third ≤ 2051 * l.j)
    × (l.fourth ≤ 2051 * l.j)
    × Counts (sum (12 * l.j) (fault_at l.inputs l.node_table.indices.now l.node_table.bits.now)) (l.first + l.second + l.third + l.fourth)
