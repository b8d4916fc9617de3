-- `put_outputs` stores the outputs' fields one after another. From the laws on fields in a row.
use Prim.Native.Nat.{◌-◌}
use Rattle.tagged_file.proofs.Emitted.{Left}
use Rattle.tagged_file.specs.Write.{output_field_at}
use Rattle.tagged_file.proofs.emit.put_outputs.Given as goal
use Rattle.graph.specs.Tables.{lent_table}

abbrev pub invariant-loop-j : goal.invariant-loop-j
invariant-loop-j l = Left (output_field_at (lent_table l.output_table)) l.outputs l.start l.initial.buffer l.buffer l.at l.j (l.outputs - l.j)
