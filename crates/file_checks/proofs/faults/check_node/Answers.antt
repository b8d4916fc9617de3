-- `check_node` tests what `node_field_number` does, in its order. From the laws on tests.
use native.Mathlib.Omega.{arith}
use mathlib.Core.Path.{refl, ◌∙◌}
use Rattle.graph.proofs.Answers.{ends_row}
use Rattle.graph.proofs.Tests.{less, no_less, none}
use Rattle.file_checks.specs.File.{node_field_number}
use Rattle.file_checks.proofs.Checked.{node_room_lem, last_below}
use Rattle.file_checks.proofs.faults.check_node.Goals as goal

pub returns-in_err-check_due : goal.returns-in_err-check_due
unfolding node_field_number
returns-in_err-check_due c = ends_row _ _ _ _ c.from_residual.ensures.1 c.in_err-check_due.ensures

pub four-requires : goal.four-requires
four-requires c = omega (arith, node_room_lem c.args.s.now (omega arith))

pub returns-then-index-four : goal.returns-then-index-four
unfolding node_field_number
returns-then-index-four c = none _ _ (omega arith) (no_less _ _ _ _ (omega arith) refl)

pub four-requires-2 : goal.four-requires-2
four-requires-2 c = omega (arith, node_room_lem c.args.s.now (omega arith))

pub returns-then-index-four-2 : goal.returns-then-index-four-2
unfolding node_field_number
returns-then-index-four-2 c = none _ _ (omega arith) (less _ _ _ _ (omega arith) (no_less _ _ _ _ (omega arith) refl))

pub last_place-requires : goal.last_place-requires
last_place-requires c = node_room_lem c.args.s.now (omega arith)

pub returns-then-index-four-3 : goal.returns-then-index-four-3
unfolding node_field_number
returns-then-index-four-3 c =
    let l = last_below c.args.s.now c.args.index _ c.last_place.ensures.0 (omega arith) in
    none _ _ (omega arith) (less _ _ _ _ (omega arith) (less _ _ _ _ (omega arith) (no_less _ _ _ _ (omega arith) refl ∙ l)))

pub returns : goal.returns
unfolding node_field_number
returns c =
    let l = last_below c.args.s.now c.args.index _ c.last_place.ensures.0 (omega arith) in
    none _ _ (omega arith) (less _ _ _ _ (omega arith) (less _ _ _ _ (omega arith) (less _ _ _ _ (omega arith) refl ∙ l)))
