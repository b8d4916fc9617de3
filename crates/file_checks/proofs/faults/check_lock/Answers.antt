-- `check_lock` tests what `lock_field_number` does, in its order. From the laws on tests.
use native.Mathlib.Omega.{arith}
use Rattle.file_checks.specs.File.{lock_field_number}
use Rattle.file_checks.proofs.Checked.{lock_room_lem}
use Rattle.graph.proofs.Answers.{ends_row}
use Rattle.graph.proofs.Tests.{less, no_less, none}
use mathlib.Core.Path.{refl}
use Rattle.file_checks.proofs.faults.check_lock.Goals as goal

pub returns-in_err-check_due : goal.returns-in_err-check_due
unfolding lock_field_number
returns-in_err-check_due c = ends_row _ _ _ _ c.from_residual.ensures.1 c.in_err-check_due.ensures

pub four-index-requires : goal.four-index-requires
four-index-requires c = omega (arith, lock_room_lem c.args.s.now (omega arith))

pub returns-then-index-low : goal.returns-then-index-low
unfolding lock_field_number
returns-then-index-low c = none _ _ (omega arith) (less _ _ _ _ (omega arith) refl)

pub returns-then-top-index : goal.returns-then-top-index
unfolding lock_field_number
returns-then-top-index c = none _ _ (omega arith) (no_less _ _ _ _ (omega arith) (no_less _ _ _ _ (omega arith) refl))

pub returns : goal.returns
unfolding lock_field_number
returns c = none _ _ (omega arith) (no_less _ _ _ _ (omega arith) (less _ _ _ _ (omega arith) refl))
