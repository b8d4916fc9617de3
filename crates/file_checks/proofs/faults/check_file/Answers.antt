-- `check_file` ends by the fault of field 01, or by that of the fields after it. From what an accepted field 01 has.
use native.Mathlib.Omega.{arith}
use mathlib.Core.Path.{sym}
use Rattle.graph.proofs.Answers.{ends_row}
use Rattle.graph.proofs.Tests.{none}
use Rattle.file_checks.proofs.Checked.{HeadPassed, head_passed, rest}
use Rattle.file_checks.specs.File.{file_number}
use Rattle.file_checks.proofs.faults.check_file.Goals as goal
use Rattle.file_checks.proofs.faults.check_file.Goals.{In_ok-check_head}

-- a field 01 that was not refused
passed : (c : In_ok-check_head) → let a = c.args in HeadPassed a.file.now a.node_room a.output_room a.lock_room
passed c = let a = c.args in head_passed a.file.now a.node_room a.output_room a.lock_room (sym c.in_ok-check_head.ensures)

pub returns-in_err-check_head : goal.returns-in_err-check_head
unfolding file_number
returns-in_err-check_head c = ends_row _ _ _ _ c.from_residual.ensures.1 c.in_err-check_head.ensures

pub slice_bounds-check_nodes-count : goal.slice_bounds-check_nodes-count
slice_bounds-check_nodes-count c = (passed (goal.at.slice_bounds-check_nodes-count c).In_ok-check_head).room

pub slice_bounds-check_nodes-start : goal.slice_bounds-check_nodes-start
slice_bounds-check_nodes-start c = omega (arith, passed (goal.at.slice_bounds-check_nodes-start c).In_ok-check_head)

pub four-requires : goal.four-requires
four-requires c = omega (arith, passed (goal.at.four-requires c).In_ok-check_head)

pub overflow_add-four : goal.overflow_add-four
overflow_add-four c = omega (arith, passed (goal.at.overflow_add-four c).In_ok-check_head)

pub four-requires-2 : goal.four-requires-2
four-requires-2 c = omega (arith, passed (goal.at.four-requires-2 c).In_ok-check_head)

pub four-requires-3 : goal.four-requires-3
four-requires-3 c = omega (arith, passed (goal.at.four-requires-3 c).In_ok-check_head)

pub check_nodes-requires : goal.check_nodes-requires
check_nodes-requires c = omega (arith, passed (goal.at.check_nodes-requires c).In_ok-check_head)

pub returns : goal.returns
unfolding file_number
returns c = none _ _ (sym c.in_ok-check_head.ensures) (cc (rest 15 c.args.file.now))
