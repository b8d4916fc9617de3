-- `check_outputs` walks as `output_fields_number` does. From the steps of the walk.
use Prim.Native.Nat.{◌-◌}
use mathlib.Core.Path.{◌≡◌}
use Rattle.file_checks.specs.File.{output_fields_number}
use Rattle.file_checks.proofs.faults.check_outputs.Given as goal

abbrev pub invariant-loop-output : goal.invariant-loop-output
invariant-loop-output l = output_fields_number (l.outputs - l._output) l.s l.start l.top ≡ output_fields_number l.outputs l.rest l.start l.top
