-- `put_inputs` meets its contract: the lines that are left come to the whole. From the laws on parts in a row.
use Prim.Native.Nat.{◌-◌}
use Rattle.tagged_file.proofs.Emitted.{Left}
use Rattle.aiger_export.specs.Inner.{input_line}
use Rattle.aiger_export.proofs.text.put_inputs.Given as goal

abbrev pub invariant-loop-k : goal.invariant-loop-k
invariant-loop-k l = Left input_line l.inputs l.start l.initial.buffer l.buffer l.at l.k (l.inputs - l.k)
