-- `check_outputs` walks as `output_fields_number` does. From the steps of the walk.
use native.Mathlib.Omega.{arith}
use Prim.Native.Nat.{◌+◌, ◌-◌}
use mathlib.Core.Path.{sym, ◌∙◌}
use Rattle.graph.proofs.Tests.{goes}
use Rattle.file_checks.proofs.Checked.{rest, stops_row, out_passed, outputs_step, outputs_done}
use Rattle.file_checks.proofs.faults.check_outputs.Goals as goal

pub returns-in_err-check_output : goal.returns-in_err-check_output
returns-in_err-check_output c =
    let l = c.loop-output in
    stops_row _ _ _ _ l.invariant (outputs_step _ (c.args.outputs - (l._output + 1)) l.s.now _ _ (omega arith)) c.from_residual.ensures.1 c.in_err-check_output.ensures

pub slice_bounds-s-count : goal.slice_bounds-s-count
slice_bounds-s-count c = out_passed c.loop-output.s.now c.args.top (sym c.in_ok-check_output.ensures)

pub slice_bounds-s-start : goal.slice_bounds-s-start
slice_bounds-s-start c = omega (arith, out_passed c.loop-output.s.now c.args.top (sym c.in_ok-check_output.ensures))

pub loop-output-preserved : goal.loop-output-preserved
loop-output-preserved c =
    let l = c.loop-output in
    rw (rest 7 l.s.now) (goes _ _ l.invariant (outputs_step _ (c.args.outputs - (l._output + 1)) l.s.now _ _ (omega arith)) (sym c.in_ok-check_output.ensures))

pub returns : goal.returns
returns c =
    let l = c.loop-output in
    c.check_locks.ensures ∙ sym (outputs_done _ l.s.now _ _ (omega arith)) ∙ l.invariant
