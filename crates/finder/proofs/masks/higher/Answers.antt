-- `higher` meets its contract.
use mathlib.Core.Path.{refl}
use mathlib.Core.Logic.{inl, inr}
use Rattle.finder.proofs.masks.higher.Goals as goal

pub returns-then-x-y : goal.returns-then-x-y
returns-then-x-y c = inr (inl (refl, c.if-x-y.true))

pub returns-then-y-x : goal.returns-then-y-x
returns-then-y-x c = inr (inr (refl, c.if-y-x.true))

pub returns : goal.returns
returns c = inl refl
