-- `check_head` tests what `head_number` does, in its order. From the laws on tests.
use native.Mathlib.Omega.{arith}
use Rattle.file_checks.specs.File.{head_number}
use Rattle.file_checks.proofs.Checked.{head_room}
use Rattle.graph.proofs.Answers.{ends_row}
use Rattle.graph.proofs.Tests.{none}
use Rattle.file_checks.proofs.faults.check_head.Goals as goal

pub returns-in_err-check_due : goal.returns-in_err-check_due
unfolding head_number
returns-in_err-check_due c = ends_row _ _ _ _ c.from_residual.ensures.1 c.in_err-check_due.ensures

pub four-requires : goal.four-requires
four-requires c = omega (arith, head_room c.args.s.now (omega arith))

pub four-requires-2 : goal.four-requires-2
four-requires-2 c = omega (arith, head_room c.args.s.now (omega arith))

pub four-requires-3 : goal.four-requires-3
four-requires-3 c = omega (arith, head_room c.args.s.now (omega arith))

pub returns : goal.returns
unfolding head_number
returns c =
    none _ _ (omega arith) (rw (c.four.ensures, c.four-2.ensures, c.four-3.ensures) at c.check_room.ensures)
