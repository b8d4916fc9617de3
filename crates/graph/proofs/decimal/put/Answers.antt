-- `put` meets its contract: its digits from the last to the first. From the laws on digits.
use Rattle.std.proofs.Common.{refl, arith, length-set}
use Rattle.graph.proofs.Digits.{length_some, left_more, left_last}
use Rattle.graph.proofs.decimal.put.Goals as goal

pub overflow_add-end : goal.overflow_add-end
overflow_add-end c = omega (arith, c.requires)

pub loop-left-init : goal.loop-left-init
loop-left-init c = record { same = refl; room = omega arith; place = omega arith; text = refl }

pub overflow_sub-k : goal.overflow_sub-k
overflow_sub-k c = let l = c.loop-left in omega (arith, length_some l.left)

pub bounds-buffer-k : goal.bounds-buffer-k
bounds-buffer-k c = let l = c.loop-left in omega (arith, length_some l.left)

pub loop-left-preserved : goal.loop-left-preserved
loop-left-preserved c = let l = c.loop-left in left_more _ _ _ _ _ _ l.invariant (omega arith) _ c.digit.ensures

pub bounds-buffer-at : goal.bounds-buffer-at
bounds-buffer-at c = let l = c.loop-left in omega (arith, length_some l.left)

pub shape_of-buffer : goal.shape_of-buffer
shape_of-buffer c = let l = c.loop-left in simp length-set l.invariant.same

pub returns : goal.returns
returns c =
    let l = c.loop-left in
    (omega arith, left_last _ _ _ _ _ _ l.invariant (omega arith) _ c.digit-2.ensures)
