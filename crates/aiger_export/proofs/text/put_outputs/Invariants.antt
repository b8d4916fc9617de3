-- `put_outputs` meets its contract: the lines that are left come to the whole. From the laws on parts in a row.
use Prim.Native.Nat.{◌-◌}
use Rattle.tagged_file.proofs.Emitted.{Left}
use Rattle.aiger_export.specs.Inner.{output_line}
use Rattle.aiger_export.proofs.text.put_outputs.Given as goal
use Rattle.graph.specs.Tables.{lent_graph}

abbrev pub invariant-loop-j : goal.invariant-loop-j
invariant-loop-j l =
    Left (output_line (lent_graph l.circuit.lent)) l.circuit.lent.outputs l.start l.initial.buffer l.buffer l.at l.j (l.circuit.lent.outputs - l.j)
