-- `put_nodes` meets its contract: the lines that are left come to the whole. From the laws on fields in a row.
use Prim.Native.Nat.{◌+◌, ◌-◌, ◌*◌, ◌≤◌}
use Rattle.tagged_file.proofs.Emitted.{Left}
use Rattle.report.specs.Report.{node_line_at}
use Rattle.report.proofs.lines.put_nodes.Given as goal
use Rattle.graph.specs.Tables.{lent_table}

abbrev pub invariant-loop-v : goal.invariant-loop-v
invariant-loop-v l =
    (l.v ≤ l.nodes) × Left (node_line_at l.inputs (lent_table l.node_table)) l.nodes l.start l.initial.buffer l.buffer l.at l.v (l.nodes - l.v) × (l.at + 54 * (l.nodes - l.v) ≤ l.start + 54 * l.nodes)
