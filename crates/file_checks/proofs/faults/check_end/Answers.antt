-- `check_end` tests what `end_number` does, in its order. From the laws on tests.
use native.Mathlib.Omega.{arith}
use Rattle.file_checks.specs.File.{end_number}
use Rattle.graph.proofs.Answers.{ends_row}
use Rattle.graph.proofs.Tests.{less, no_less, none}
use mathlib.Core.Path.{refl}
use Rattle.file_checks.proofs.faults.check_end.Goals as goal

pub returns-in_err-check_due : goal.returns-in_err-check_due
unfolding end_number
returns-in_err-check_due c = ends_row _ _ _ _ c.from_residual.ensures.1 c.in_err-check_due.ensures

pub returns-then-s-gt3 : goal.returns-then-s-gt3
unfolding end_number
returns-then-s-gt3 c = none _ _ (omega arith) (less _ _ _ _ (omega arith) (refl))

pub returns : goal.returns
unfolding end_number
returns c = none _ _ (omega arith) (no_less _ _ _ _ (omega arith) (refl))
