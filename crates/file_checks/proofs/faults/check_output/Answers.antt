-- `check_output` tests what `output_field_number` does, in its order. From the laws on tests.
use native.Mathlib.Omega.{arith}
use Rattle.file_checks.specs.File.{output_field_number}
use Rattle.file_checks.proofs.Checked.{out_room}
use Rattle.graph.proofs.Answers.{ends_row}
use Rattle.graph.proofs.Tests.{less, no_less, none}
use mathlib.Core.Path.{refl}
use Rattle.file_checks.proofs.faults.check_output.Goals as goal

pub returns-in_err-check_due : goal.returns-in_err-check_due
unfolding output_field_number
returns-in_err-check_due c = ends_row _ _ _ _ c.from_residual.ensures.1 c.in_err-check_due.ensures

pub four-requires : goal.four-requires
four-requires c = omega (arith, out_room c.args.s.now (omega arith))

pub returns-then-index-four : goal.returns-then-index-four
unfolding output_field_number
returns-then-index-four c = none _ _ (omega arith) (no_less _ _ _ _ (omega arith) (refl))

pub returns : goal.returns
unfolding output_field_number
returns c = none _ _ (omega arith) (less _ _ _ _ (omega arith) (refl))
