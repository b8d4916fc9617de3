-- `front::shift` meets its contract. The invariant: the words passed are those from `first` on, and later ones are as they were. From the laws
-- of words moved.
use mathlib.Core.Path.{◌≡◌}
use native.Mathlib.Omega.{arith}
use Rattle.evaluation.proofs.Shift.{shift_none, shift_more, shift_all}
use Rattle.evaluation.proofs.front.shift.Goals as goal

pub loop-k-init : goal.loop-k-init
loop-k-init c = (omega arith, shift_none c.args.first c.args.scratch.now)

pub overflow_add-scratch : goal.overflow_add-scratch
overflow_add-scratch c = omega (arith, c.requires)

pub offset_bounds-scratch-first : goal.offset_bounds-scratch-first
offset_bounds-scratch-first c = omega (arith, c.requires, c.loop-k.invariant.1.same)

pub bounds-scratch-first : goal.bounds-scratch-first
bounds-scratch-first c = omega (arith, c.requires, c.loop-k.invariant.1.same)

pub offset_bounds-scratch-k : goal.offset_bounds-scratch-k
offset_bounds-scratch-k c = omega (arith, c.requires, c.loop-k.invariant.1.same)

pub bounds-scratch-k : goal.bounds-scratch-k
bounds-scratch-k c = omega (arith, c.requires, c.loop-k.invariant.1.same)

pub loop-k-preserved : goal.loop-k-preserved
loop-k-preserved c =
    let l = c.loop-k in
    (omega arith, shift_more c.args.first c.args.scratch.now l.scratch l.k (omega (arith, c.requires)) l.invariant.1)

pub shape_of-scratch : goal.shape_of-scratch
shape_of-scratch c = c.loop-k.invariant.1.same

pub returns : goal.returns
returns c =
    let l = c.loop-k in
    let a = c.args in
    let e : l.k ≡ a.many = omega arith in
    rw e at (shift_all a.first a.scratch.now l.scratch l.k (omega (arith, c.requires, e)) l.invariant.1)
