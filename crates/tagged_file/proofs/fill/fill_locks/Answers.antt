-- `fill_locks` sets what `locked_at` says: the locks that are left, set where they go, come to the whole. From the laws of the fill pass.
use native.Mathlib.Omega.{arith}
use mathlib.Core.Path.{refl}
use lib.ListN.{length, get_or-eq_default, length-drop}
use Prim.Native.Nat.{◌+◌}
use Rattle.file_checks.proofs.Checked.{rest}
use Rattle.file_checks.specs.Walk.{LockRoom}
use Rattle.tagged_file.proofs.Filled.{locks_left_room, locks_left_more, locks_left_none}
use Rattle.tagged_file.proofs.fill.fill_locks.Goals as goal
use Rattle.tagged_file.proofs.fill.fill_locks.Goals.{In-6}

-- the lock at the front

whole : (c : In-6) → let a = c.args in LockRoom c.loop-s.s.now a.start (a.start + length a.locks.now)
whole c = let l = c.loop-s in locks_left_room _ _ _ l.locks l.s.now l.invariant (omega arith)

pub loop-s-init : goal.loop-s-init
loop-s-init c = record { room = c.requires; same = refl; locked = refl }

pub four-requires : goal.four-requires
four-requires c = omega (arith, whole (goal.at.four-requires c).In-6)

pub overflow_sub-at : goal.overflow_sub-at
overflow_sub-at c = omega (arith, whole (goal.at.overflow_sub-at c).In-6)

pub bounds-locks-at : goal.bounds-locks-at
bounds-locks-at c = omega (arith, whole (goal.at.bounds-locks-at c).In-6, c.loop-s.invariant.same)

pub slice_bounds-s-count : goal.slice_bounds-s-count
slice_bounds-s-count c = omega (arith, whole (goal.at.slice_bounds-s-count c).In-6)

pub slice_bounds-s-start : goal.slice_bounds-s-start
slice_bounds-s-start c = omega (arith, whole (goal.at.slice_bounds-s-start c).In-6)

pub loop-s-smaller : goal.loop-s-smaller
loop-s-smaller c =
    let s = c.loop-s.s.now in
    rw (rest 7 s) (omega (arith, whole (goal.at.loop-s-smaller c).In-6, length-drop 7 s))

pub loop-s-preserved : goal.loop-s-preserved
loop-s-preserved c =
    let l = c.loop-s in
    locks_left_more _ _ _ l.locks l.s.now l.invariant (omega arith) _ c.four.result (rest 7 l.s.now) c.four.ensures

pub returns-in_default : goal.returns-in_default
returns-in_default c =
    let l = c.loop-s in
    locks_left_none _ _ _ l.locks l.s.now l.invariant (λ e. omega (arith, e, get_or-eq_default l.s.now 0 {n = 0} (omega arith)))

pub returns-in_default-2 : goal.returns-in_default-2
returns-in_default-2 c = let l = c.loop-s in locks_left_none _ _ _ l.locks l.s.now l.invariant (λ e. omega arith)
