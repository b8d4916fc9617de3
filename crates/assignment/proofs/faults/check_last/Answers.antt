-- `check_last` meets its contract: the first of the faults, in their order. From its callees' contracts.
use Rattle.std.proofs.Common.{sym}
use Rattle.graph.proofs.Answers.{ends_row}
use Rattle.graph.proofs.Tests.{none}
use Rattle.assignment.proofs.faults.check_last.Goals as goal

pub returns-in_err-check_inputs : goal.returns-in_err-check_inputs
returns-in_err-check_inputs c = ends_row _ _ _ _ c.from_residual.ensures.1 c.in_err-check_inputs.ensures

pub check_pattern-requires : goal.check_pattern-requires
check_pattern-requires c = c.requires

pub returns-in_err-check_pattern : goal.returns-in_err-check_pattern
returns-in_err-check_pattern c =
    none _ _ (sym c.in_ok-check_inputs.ensures) (ends_row _ _ _ _ c.from_residual-in_err-check_pattern.ensures.1 c.in_err-check_pattern.ensures)

pub returns : goal.returns
returns c = none _ _ (sym c.in_ok-check_inputs.ensures) (none _ _ (sym c.in_ok-check_pattern.ensures) c.check_scratch.ensures)
