-- `carry` meets its contract. From the definitions.
use mathlib.Core.Path.{refl}
use mathlib.Core.Logic.{inl, inr}
use native.Mathlib.Omega.{arith}
use Rattle.finder.proofs.nearness.carry.Goals as goal

pub returns-then-x-carried : goal.returns-then-x-carried
returns-then-x-carried c = inl (record { lower = c.if-x-carried.true; carried = refl; list = refl })

pub returns : goal.returns
returns c = inr (record { lower = omega (arith, c.if-x-carried.false); carried = refl; list = refl })
