-- `faults::check_figures` meets its contract. From its callees' contracts.
use Rattle.std.proofs.Common.{sym}
use Rattle.graph.proofs.Answers.{ends_row}
use Rattle.graph.proofs.Tests.{none}
use Rattle.class_figures.specs.Call.{figures_number}
use Rattle.class_figures.proofs.faults.check_figures.Goals as goal

pub returns-in_err-check_record : goal.returns-in_err-check_record
unfolding figures_number
returns-in_err-check_record c = ends_row _ _ _ _ c.from_residual.ensures.1 c.in_err-check_record.ensures

pub returns : goal.returns
unfolding figures_number
returns c = none _ _ (sym c.in_ok-check_record.ensures) c.check_length.ensures
