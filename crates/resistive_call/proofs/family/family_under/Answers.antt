-- `family_under` meets its contract. From the rows, worked out.
use native.Mathlib.Omega.{arith}
use Rattle.resistive_call.proofs.Families.{arity_few, first_flag, second_flag, family_under, either_low}
use Rattle.resistive_call.proofs.family.family_under.Goals as goal

pub overflow_add-a : goal.overflow_add-a
overflow_add-a c = omega (arith, c.requires.1, arity_few c.args.xor)

pub chain-requires : goal.chain-requires
chain-requires c =
    let l = c.requires.0 in (
      either_low _ _ _ _ _ c.either.ensures (l 0) (l 1),
      either_low _ _ _ _ _ c.either-2.ensures (l 1) (l 0),
      either_low _ _ _ _ _ c.either-3.ensures (l 2) (l 3),
      either_low _ _ _ _ _ c.either-4.ensures (l 3) (l 2),
      either_low _ _ _ _ _ c.either-5.ensures (l 4) (l 5),
      either_low _ _ _ _ _ c.either-6.ensures (l 5) (l 4),
    )

pub returns : goal.returns
returns c =
    let k = c.requires.1 in
    let t = c.turns_third-c.ensures in (
      family_under _ _ _ _ _ _ k (first_flag _ _ k) (second_flag _ _ k) t.0 (omega arith) (omega arith) t.1 _ _ _ _ _ _ _ c.either.ensures c.either-2.ensures c.either-3.ensures c.either-4.ensures c.either-5.ensures c.either-6.ensures c.chain.ensures.0,
      c.chain.ensures.1,
    )
