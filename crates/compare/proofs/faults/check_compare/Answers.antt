-- `check_compare` meets its contract: what is lent, then what it holds. From the laws on tests.
use Rattle.std.proofs.Common.{sym}
use Rattle.graph.proofs.Answers.{ends_row}
use Rattle.graph.proofs.Tests.{none, both}
use Rattle.compare.specs.Compare.{rooms_number, compare_number}
use Rattle.compare.proofs.faults.check_compare.Goals as goal

pub returns-in_err-check_rooms : goal.returns-in_err-check_rooms
unfolding compare_number
returns-in_err-check_rooms c = ends_row _ _ _ _ c.from_residual.ensures.1 c.in_err-check_rooms.ensures

pub check_contents-requires : goal.check_contents-requires
unfolding rooms_number
check_contents-requires c =
    let b = both _ _ (sym c.in_ok-check_rooms.ensures) in
    (b.0, (both _ _ b.1).1)

pub returns : goal.returns
unfolding compare_number
returns c = none _ _ (sym c.in_ok-check_rooms.ensures) c.check_contents.ensures
