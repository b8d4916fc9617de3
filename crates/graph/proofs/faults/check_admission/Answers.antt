-- `check_admission` meets its contract: the first of the faults that is there. From its callees' contracts.
use Rattle.std.proofs.Common.{sym}
use Rattle.graph.specs.Admission.{admission_number}
use Rattle.graph.proofs.Answers.{ends_row}
use Rattle.graph.proofs.Tests.{none}
use Rattle.graph.proofs.faults.check_admission.Goals as goal

pub returns-in_err-check_tables : goal.returns-in_err-check_tables
unfolding admission_number
returns-in_err-check_tables c = ends_row _ _ _ _ c.from_residual.ensures.1 c.in_err-check_tables.ensures

pub check_content-requires : goal.check_content-requires
check_content-requires c = sym c.in_ok-check_tables.ensures

pub returns : goal.returns
unfolding admission_number
returns c = none _ _ (sym c.in_ok-check_tables.ensures) c.check_content.ensures
