-- `weight_of` meets its contract. From the definition.
use Rattle.resistive_call.proofs.Families.{weight_xor, weight_one, weight_more}
use native.Mathlib.Omega.{arith}
use Rattle.resistive_call.proofs.family.weight_of.Goals as goal

pub returns-then-xor : goal.returns-then-xor
returns-then-xor c = let e = weight_xor _ _ c.if-xor.true in (e, omega (arith, e))

pub returns-then-n-eq1 : goal.returns-then-n-eq1
returns-then-n-eq1 c = (weight_one _ _ c.if-xor.false c.if-n-eq1.true, omega arith)

pub returns : goal.returns
returns c = (weight_more _ _ c.if-xor.false c.if-n-eq1.false, omega arith)
