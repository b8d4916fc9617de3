-- `score` meets its contract. From the definition.
use Rattle.resistive_call.proofs.Families.{score_is, either_le}
use native.Mathlib.Omega.{arith}
use Rattle.resistive_call.proofs.family.score.Goals as goal

pub overflow_add-result : goal.overflow_add-result
overflow_add-result c = omega (arith, c.family_of.ensures.1, c.either-shown.ensures, either_le c.flag_of.result _ _ 1216400 c.requires.0.still c.requires.0.turned)

pub returns : goal.returns
returns c = score_is _ _ _ _ _ _ _ _ c.flag_of.ensures.0 c.either-shown.ensures c.family_of.ensures.0
