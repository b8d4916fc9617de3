-- `next_place` meets its contract. From the laws of a rising list.
use native.Mathlib.Omega.{arith}
use Rattle.many.proofs.Rising.{stands_next, stands_still}
use Rattle.many.proofs.walk.next_place.Goals as goal

pub returns-then-k-list : goal.returns-then-k-list
returns-then-k-list c =
    stands_still c.args.list.now c.args.u c.args.k c.requires.1 c.requires.0 (λ h. absurd (omega (arith, c.if-k-list.true)))

pub returns-then-list-k : goal.returns-then-list-k
returns-then-list-k c =
    stands_next c.args.list.now c.args.u c.args.k c.requires.1 c.requires.0 (omega (arith, c.if-k-list.false, c.requires.1.within)) c.if-list-k.true

pub returns : goal.returns
returns c =
    stands_still c.args.list.now c.args.u c.args.k c.requires.1 c.requires.0 (λ h. c.if-list-k.false)
