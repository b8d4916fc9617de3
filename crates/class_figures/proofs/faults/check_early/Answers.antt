-- `faults::check_early` meets its contract: the first of the faults, in their order. From its callees' contracts.
use Rattle.std.proofs.Common.{sym}
use Rattle.graph.proofs.Answers.{ends_row}
use Rattle.graph.proofs.Tests.{none}
use Rattle.class_figures.proofs.faults.check_early.Goals as goal

pub returns-in_err-check_record : goal.returns-in_err-check_record
returns-in_err-check_record c = ends_row _ _ _ _ c.from_residual.ensures.1 c.in_err-check_record.ensures

pub returns-in_err-check_tables : goal.returns-in_err-check_tables
returns-in_err-check_tables c =
    none _ _ (sym c.in_ok-check_record.ensures) (ends_row _ _ _ _ c.from_residual-in_err-check_tables.ensures.1 c.in_err-check_tables.ensures)

pub returns : goal.returns
returns c = none _ _ (sym c.in_ok-check_record.ensures) (none _ _ (sym c.in_ok-check_tables.ensures) c.check_length.ensures)
