-- `third` meets its contract. From the definition.
use Rattle.resistive_call.proofs.Families.{third_is}
use native.Mathlib.Omega.{arith}
use Rattle.resistive_call.proofs.family.third.Goals as goal

pub returns : goal.returns
returns c = (third_is _ _ _ _ _ _ _ c.weight_of.ensures.0 c.weight_of-2.ensures.0 c.min.ensures, omega (arith, c.min.ensures, c.requires.0, c.weight_of.ensures.1))
