-- `check_locks` walks as `lock_fields_number` does, over as many locks as stand at the front. From the steps of the walk.
use Prim.Native.Nat.{ℕ}
use mathlib.Core.List.{List}
use Rattle.file_checks.specs.File.{lock_field_number}
use Rattle.file_checks.specs.Walk.{LockRoom}
use Rattle.file_checks.proofs.Checked.{rest, stops_row, lock_passed, locks_step, locks_done}
use Rattle.graph.proofs.Tests.{goes}
use mathlib.Core.Path.{◌≡◌, refl, sym, ◌∙◌}
use native.Mathlib.Omega.{arith}
use lib.ListN.{get_or, get_or-eq_default, length-drop}
use Rattle.file_checks.proofs.faults.check_locks.Goals as goal
use Rattle.file_checks.proofs.faults.check_locks.Goals.{in_default, in_default-2}

-- a lock that was not refused
passed : (s : List ℕ) (low top : ℕ) → 0 ≡ lock_field_number s low top → LockRoom s low top
passed s low top e = lock_passed s low top (sym e)

pub loop-s-init : goal.loop-s-init
loop-s-init c = refl

pub returns-in_err-check_lock : goal.returns-in_err-check_lock
returns-in_err-check_lock c =
    let l = c.loop-s in
    stops_row _ _ _ _ l.invariant (locks_step l.s.now _ _ (omega arith)) c.from_residual.ensures.1 c.in_err-check_lock.ensures

pub four-low-requires : goal.four-low-requires
four-low-requires c = (passed c.loop-s.s.now c.loop-s.low c.args.top c.in_ok-check_lock.ensures).whole

pub overflow_add-low : goal.overflow_add-low
overflow_add-low c = omega (arith, passed c.loop-s.s.now c.loop-s.low c.args.top c.in_ok-check_lock.ensures)

pub slice_bounds-s-count : goal.slice_bounds-s-count
slice_bounds-s-count c = (passed c.loop-s.s.now c.loop-s.low c.args.top c.in_ok-check_lock.ensures).whole

pub slice_bounds-s-start : goal.slice_bounds-s-start
slice_bounds-s-start c = omega (arith, passed c.loop-s.s.now c.loop-s.low c.args.top c.in_ok-check_lock.ensures)

pub loop-s-smaller : goal.loop-s-smaller
loop-s-smaller c =
    let s = c.loop-s.s.now in
    rw (rest 7 s) (omega (arith, passed s c.loop-s.low c.args.top c.in_ok-check_lock.ensures, length-drop 7 s))

pub loop-s-preserved : goal.loop-s-preserved
loop-s-preserved c =
    let l = c.loop-s in
    rw (rest 7 l.s.now, c.four-low.ensures) (goes _ _ l.invariant (locks_step l.s.now _ _ (omega arith)) (sym c.in_ok-check_lock.ensures))

pub returns : goal.returns
returns c =
    let l = c.loop-s in
    let none : get_or l.s.now 0 0 ≡ 6 → ⊥ = elim c.if-s-lt1.branch [
      | in_default w ↦ λ e. omega (arith, e, get_or-eq_default l.s.now 0 {n = 0} (omega arith))
      | in_default-2 w ↦ λ e. omega arith
    ] in
    c.check_end.ensures ∙ sym (locks_done l.s.now _ _ none) ∙ l.invariant
