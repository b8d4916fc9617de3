-- `header::read_header` meets its contract: it tests what `header_number` does. From the laws on headers.
use mathlib.Core.Path.{sym}
use native.Mathlib.Omega.{arith}
use Rattle.file_checks.proofs.Checked.{rest}
use Rattle.aiger_import.proofs.Heads.{aag_room, no_aag, no_line, has_latches, wrong_m, no_room, room_left, whole}
use Rattle.aiger_import.proofs.header.read_header.Goals as goal

pub returns-in_err-check_aag : goal.returns-in_err-check_aag
returns-in_err-check_aag c = no_aag _ _ _ _ _ _ c.from_residual.ensures.1 c.in_err-check_aag.ensures

pub slice_bounds-read_line-count : goal.slice_bounds-read_line-count
slice_bounds-read_line-count c = aag_room c.args.s.now (sym c.in_ok-check_aag.ensures)

pub slice_bounds-read_line-start : goal.slice_bounds-read_line-start
slice_bounds-read_line-start c = omega (arith, aag_room c.args.s.now (sym c.in_ok-check_aag.ensures))

pub returns-in_err-size : goal.returns-in_err-size
returns-in_err-size c =
    no_line _ _ _ _ (sym c.in_ok-check_aag.ensures) _ _ (rest 4 c.args.s.now) _ _ c.from_residual-in_err-size.ensures.1 c.in_err-size.ensures

pub returns-then-n-ne0 : goal.returns-then-n-ne0
returns-then-n-ne0 c =
    has_latches _ _ _ _ (sym c.in_ok-check_aag.ensures) _ _ (rest 4 c.args.s.now) _ c.in_ok-size.ensures c.if-n-ne0.true

pub returns-then-from : goal.returns-then-from
returns-then-from c =
    wrong_m _ _ _ _ (sym c.in_ok-check_aag.ensures) _ _ (rest 4 c.args.s.now) _ c.in_ok-size.ensures c.if-n-ne0.false
    (λ y. c.if-from.true (omega (arith, y, c.from.ensures, c.from-2.ensures, c.from-3.ensures)))

pub returns-in_err-check_room : goal.returns-in_err-check_room
returns-in_err-check_room c =
    no_room _ _ _ _ (sym c.in_ok-check_aag.ensures) _ _ (rest 4 c.args.s.now) _ c.in_ok-size.ensures c.if-n-ne0.false (omega (arith, c.if-from.false, c.from.ensures, c.from-2.ensures, c.from-3.ensures)) _ _
    c.from_residual-in_err-check_room.ensures.1 c.in_err-check_room.ensures

pub overflow_add-result : goal.overflow_add-result
overflow_add-result c = omega (arith, c.well_formed, room_left c.args.s.now _ _ _ (sym c.in_ok-check_aag.ensures) (rest 4 c.args.s.now) c.in_ok-size.ensures)

pub returns : goal.returns
returns c =
    whole _ _ _ _ (sym c.in_ok-check_aag.ensures) _ _ (rest 4 c.args.s.now) _ c.in_ok-size.ensures c.if-n-ne0.false (omega (arith, c.if-from.false, c.from.ensures, c.from-2.ensures, c.from-3.ensures))
    c.in_ok-check_room.ensures
