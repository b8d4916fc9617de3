-- `put_outputs` meets its contract: the lines that are left come to the whole. From the laws on fields in a row.
use Prim.Native.Nat.{◌+◌, ◌-◌, ◌*◌, ◌≤◌}
use Rattle.tagged_file.proofs.Emitted.{Left}
use Rattle.report.specs.Report.{output_line_at}
use Rattle.report.proofs.lines.put_outputs.Given as goal
use Rattle.graph.specs.Tables.{lent_table}

abbrev pub invariant-loop-j : goal.invariant-loop-j
invariant-loop-j l =
    (l.j ≤ l.outputs) × Left (output_line_at (lent_table l.output_table)) l.outputs l.start l.initial.buffer l.buffer l.at l.j (l.outputs - l.j) × (l.at + 15 * (l.outputs - l.j) ≤ l.start + 15 * l.outputs)
