-- `inputs_size` meets its contract: the widths of the lines passed are added up. From the laws on lengths in a row.
use Rattle.aiger_export.specs.Inner.{input_line}
use Rattle.aiger_export.proofs.Summed.{Summed}
use Rattle.aiger_export.proofs.sizes.inputs_size.Given as goal

abbrev pub invariant-loop-k : goal.invariant-loop-k
invariant-loop-k l = Summed input_line l.inputs l.size l.k
