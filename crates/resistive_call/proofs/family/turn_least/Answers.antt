-- `turn_least` meets its contract. From the definition.
use Rattle.resistive_call.proofs.Families.{turn_xor, turn_majority, arity_true, arity_false}
use native.Mathlib.Omega.{arith}
use Rattle.resistive_call.proofs.family.turn_least.Goals as goal

pub family_of-requires : goal.family_of-requires
family_of-requires c = (c.requires.0, arity_true _ (omega (arith, c.requires.1)))

pub family_of-requires-then-xor : goal.family_of-requires-then-xor
family_of-requires-then-xor c = (c.requires.0, arity_true _ (omega (arith, c.requires.1)))

pub returns-then-xor : goal.returns-then-xor
returns-then-xor c = (turn_xor _ _ _ _ _ _ c.if-xor.true c.family_of.ensures.0 c.family_of-then-xor.ensures.0 c.min.ensures, omega (arith, c.min.ensures, c.family_of.ensures.1))

pub family_of-requires-2 : goal.family_of-requires-2
family_of-requires-2 c = (c.requires.0, arity_false _ (omega (arith, c.requires.1)))

pub returns : goal.returns
returns c = (turn_majority _ _ _ _ c.if-xor.false c.family_of-2.ensures.0, c.family_of-2.ensures.1)
