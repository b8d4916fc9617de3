-- `outputs_size` meets its contract: the widths of the lines passed are added up. From the laws on lengths in a row.
use Rattle.aiger_export.specs.Inner.{output_line}
use Rattle.aiger_export.proofs.Summed.{Summed}
use Rattle.aiger_export.proofs.sizes.outputs_size.Given as goal
use Rattle.graph.specs.Tables.{lent_graph}

abbrev pub invariant-loop-j : goal.invariant-loop-j
invariant-loop-j l = Summed (output_line (lent_graph l.circuit.lent)) l.circuit.lent.outputs l.size l.j
