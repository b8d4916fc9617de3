-- `all_rounds` makes rounds until one does not lower C: what is left after each is the rest of settling.
use mathlib.Core.Path.{refl}
use native.Mathlib.Omega.{arith}
use Rattle.settling.proofs.Repeating.{count_few, going_first, going_last, going_few, going_room, going_more}
use Rattle.settling.proofs.all.all_rounds.Goals as goal

pub overflow_add-before : goal.overflow_add-before
overflow_add-before c = omega (arith, c.requires.1, count_few _ _ c.requires.0)

pub loop-after-init : goal.loop-after-init
loop-after-init c = (refl, going_first _ _ _ c.requires.0 _ c.requires.1 refl refl)

pub one_round-tally-requires : goal.one_round-tally-requires
one_round-tally-requires c =
    let w = c.loop-after.invariant.1 in
    (w.ordered, w.here, going_room _ _ _ _ _ _ _ c.requires.0 w, c.requires.2)

pub overflow_add-rounds : goal.overflow_add-rounds
overflow_add-rounds c =
    omega (arith, going_few _ _ _ _ _ _ _ c.requires.0 c.loop-after.invariant.1)

pub loop-after-preserved : goal.loop-after-preserved
loop-after-preserved c =
    let i = c.loop-after.invariant in
    (refl, rw i.0 (going_more _ _ _ _ _ _ _ i.1 (omega (arith, i.0)) _ _ c.one_round-tally.ensures))

pub shape_of-scratch : goal.shape_of-scratch
shape_of-scratch c = c.loop-after.invariant.1.long

pub returns : goal.returns
returns c =
    let i = c.loop-after.invariant in
    going_last _ _ _ _ _ _ _ c.requires.0 i.1 (omega (arith, i.0))
