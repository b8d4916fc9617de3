-- `chain` meets its contract. From the definition.
use Rattle.resistive_call.proofs.Families.{chain_is}
use native.Mathlib.Omega.{arith}
use Rattle.resistive_call.proofs.family.chain.Goals as goal

pub returns : goal.returns
returns c =
    (chain_is _ _ _ _ _ _ _ _ _ _ _ _ _ c.third-none.ensures.0 c.third-one.ensures.0 c.third-two.ensures.0 c.min-even.ensures c.min-odd.ensures c.min.ensures, omega (arith, c.min.ensures, c.min-even.ensures, c.third-none.ensures.1, c.requires.0, c.requires.2))
