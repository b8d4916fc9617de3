-- `front::fill_low` meets its contract. The invariant: the words of the constant and of the inputs passed are there. From the laws on words
-- that stand at the front.
use mathlib.Core.Path.{◌≡◌, refl, ◌∙◌}
use Prim.Native.Nat.{◌+◌, ◌<◌}
use native.Mathlib.Omega.{arith}
use lib.ListN.{length, set, length-set}
use Rattle.evaluation.proofs.Rows.{low_none, low_more}
use Rattle.evaluation.proofs.front.fill_low.Goals as goal
use Rattle.evaluation.proofs.front.fill_low.Goals.{Start}

-- scratch is as long when the constant's word is in it

room : (s : Start) → s.args.inputs < length (set s.args.scratch.now 0 0)
room s = omega (arith, s.requires.1, length-set s.args.scratch.now 0 0)

pub bounds-scratch-0 : goal.bounds-scratch-0
bounds-scratch-0 c = omega (arith, c.requires.1)

pub loop-k-init : goal.loop-k-init
loop-k-init c = (omega arith, refl, refl, low_none c.args.input_words.now c.args.scratch.now (omega (arith, c.requires.1)))

pub offset_bounds-input_words-k : goal.offset_bounds-input_words-k
offset_bounds-input_words-k c = omega (arith, c.requires.0)

pub bounds-input_words-k : goal.bounds-input_words-k
bounds-input_words-k c = omega (arith, c.requires.0)

pub overflow_add-scratch : goal.overflow_add-scratch
overflow_add-scratch c = omega (arith, room (goal.at.overflow_add-scratch c).Start)

pub offset_bounds-scratch-k : goal.offset_bounds-scratch-k
offset_bounds-scratch-k c = omega (arith, room (goal.at.offset_bounds-scratch-k c).Start, c.loop-k.invariant.2)

pub bounds-scratch-k : goal.bounds-scratch-k
bounds-scratch-k c = omega (arith, room (goal.at.bounds-scratch-k c).Start, c.loop-k.invariant.2)

pub loop-k-preserved : goal.loop-k-preserved
loop-k-preserved c =
    let l = c.loop-k in
    (omega (arith, c.loop-k-test.true), l.invariant.1, length-set l.scratch (l.k + 1) _ ∙ l.invariant.2, low_more c.args.input_words.now l.scratch l.k (omega (arith, c.requires.0)) (omega (arith, room (goal.at.loop-k-preserved c).Start, l.invariant.2)) l.invariant.3)

pub shape_of-scratch : goal.shape_of-scratch
shape_of-scratch c = c.loop-k.invariant.2 ∙ length-set c.args.scratch.now 0 0

pub returns : goal.returns
returns c =
    let l = c.loop-k in
    let e : l.k ≡ c.args.inputs = omega arith in
    rw e at l.invariant.3
