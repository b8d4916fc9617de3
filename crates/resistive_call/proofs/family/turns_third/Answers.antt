-- `turns_third` meets its contract. From the rows.
use native.Mathlib.Omega.{arith}
use Rattle.resistive_call.proofs.Families.{third_of_xor, third_of_majority}
use Rattle.resistive_call.proofs.family.turns_third.Goals as goal

pub returns-then-xor : goal.returns-then-xor
returns-then-xor c = (third_of_xor _ _ c.requires c.if-xor.true, omega arith)

pub returns : goal.returns
returns c = third_of_majority _ _ c.requires c.if-xor.false
