-- `check_assignment` meets its contract: the first of the faults, in their order. From its callees' contracts.
use Rattle.std.proofs.Common.{sym, arith}
use Rattle.graph.proofs.Answers.{ends_row}
use Rattle.graph.proofs.Tests.{none, short_slice, long_slice}
use Rattle.evaluation.specs.Evaluation.{scratch_number}
use Rattle.evaluation.proofs.Call.{met}
use Rattle.assignment.specs.Assignment.{assignment_number}
use Rattle.assignment.proofs.faults.check_assignment.Goals as goal

pub returns-in_err-check_tables : goal.returns-in_err-check_tables
unfolding assignment_number
returns-in_err-check_tables c = ends_row _ _ _ _ c.from_residual.ensures.1 c.in_err-check_tables.ensures

pub returns-then-wanted-lent : goal.returns-then-wanted-lent
unfolding assignment_number
returns-then-wanted-lent c = none _ _ (sym c.in_ok-check_tables.ensures) (met _ _ (omega arith) (short_slice _ _ c.if-wanted-lent.true))

pub check_content-requires : goal.check_content-requires
check_content-requires c = sym c.in_ok-check_tables.ensures

pub returns-in_err-check_content : goal.returns-in_err-check_content
unfolding assignment_number
returns-in_err-check_content c =
    none _ _ (sym c.in_ok-check_tables.ensures)
    (none _ _ (sym (long_slice _ _ c.if-wanted-lent.false)) (ends_row _ _ _ _ c.from_residual-in_err-check_content.ensures.1 c.in_err-check_content.ensures))

pub returns : goal.returns
unfolding assignment_number scratch_number
returns c =
    none _ _ (sym c.in_ok-check_tables.ensures)
    (none _ _ (sym (long_slice _ _ c.if-wanted-lent.false)) (none _ _ (sym c.in_ok-check_content.ensures) c.check_last.ensures))
