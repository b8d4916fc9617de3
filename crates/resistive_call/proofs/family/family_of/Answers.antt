-- `family_of` meets its contract. From the definition.
use Prim.Native.Nat.{◌+◌, ◌-◌}
use Rattle.resistive_call.proofs.Families.{family_by_lem}
use Rattle.resistive_call.proofs.family.family_of.Goals as goal

pub chain-requires : goal.chain-requires
chain-requires c =
    let l = c.requires.0 in
    let a = c.flag_of-a.result in
    let b = c.flag_of-b.result in
    let d = c.flag_of-c.result in
    (l a, l (1 - a), l (2 + b), l (3 - b), l (4 + d), l (5 - d))

pub returns : goal.returns
returns c = (family_by_lem _ _ _ _ _ _ _ c.flag_of-a.ensures.0 c.flag_of-b.ensures.0 c.flag_of-c.ensures.0 c.chain.ensures.0, c.chain.ensures.1)
