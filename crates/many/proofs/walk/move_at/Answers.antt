-- `move_at` meets its contract: a node that stands in the list has its move, and any other move 0. From the laws of a rising list.
use native.Mathlib.Omega.{arith}
use mathlib.Core.Path.{◌∙◌}
use Rattle.many.proofs.Rising.{move_here, move_none}
use Rattle.many.proofs.walk.move_at.Goals as goal

pub returns-then-k-list : goal.returns-then-k-list
returns-then-k-list c =
    let a = c.args in
    move_none a.list.now a.bytes.now a.u a.k c.requires.0 c.requires.2 (λ h. absurd (omega (arith, c.if-k-list.true)))

pub returns-then-list-k : goal.returns-then-list-k
returns-then-list-k c =
    let a = c.args in
    c.byte_at.ensures
    ∙ move_here a.list.now a.bytes.now a.u a.k c.requires.0 c.requires.1 (omega (arith, c.if-k-list.false, c.requires.2.within)) c.if-list-k.true

pub returns : goal.returns
returns c =
    let a = c.args in
    move_none a.list.now a.bytes.now a.u a.k c.requires.0 c.requires.2 (λ h. c.if-list-k.false)
