-- `move_told` meets its contract: by the kind.
use mathlib.Core.Path.{sym, ap}
use mathlib.Core.Bool.{Bool}
use Rattle.order.specs.Inner.{tells}
use Rattle.compare.proofs.telling.move_told.Goals as goal

pub returns-then-xor : goal.returns-then-xor
unfolding tells
returns-then-xor c = let a = c.args in sym (ap (λ (k : Bool). tells k a.x a.y) c.if-xor.true)

pub returns : goal.returns
unfolding tells
returns c = let a = c.args in sym (ap (λ (k : Bool). tells k a.x a.y) c.if-xor.false)
