-- `check_contents` meets its contract: the first graph, then the second. From the laws on tests.
use Rattle.std.proofs.Common.{sym}
use Rattle.graph.proofs.Answers.{ends_row}
use Rattle.graph.proofs.Tests.{none}
use Rattle.compare.specs.Compare.{contents_number}
use Rattle.compare.proofs.faults.check_contents.Goals as goal

pub returns-in_err-check_content : goal.returns-in_err-check_content
unfolding contents_number
returns-in_err-check_content c = ends_row _ _ _ _ c.from_residual.ensures.1 c.in_err-check_content.ensures

pub returns : goal.returns
unfolding contents_number
returns c = none _ _ (sym c.in_ok-check_content.ensures) c.check_content-2.ensures
