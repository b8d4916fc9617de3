-- `first_pair` meets its contract. From the law of the first least pair.
use Rattle.moves.proofs.Deciding.{pair_of}
use Rattle.std.proofs.Common.{arith}
use Rattle.moves.proofs.Moves.{moves_row}
use Rattle.moves.proofs.decide.first_pair.Goals as goal

pub least_of-first-requires : goal.least_of-first-requires
least_of-first-requires c =
    let n = c.requires.0 in
    (record { bits = n.numbers.bits; still = omega (arith, n.numbers.some, n.numbers.few, c.answer_given-still.ensures.low); turned = omega (arith, n.numbers.few, c.answer_given-turned.ensures.low) }, n.has)

pub flag_of-f-requires : goal.flag_of-f-requires
flag_of-f-requires c = (moves_row _ _ _ c.requires.0.has c.least_of-first.ensures.found.below, omega arith)

pub returns : goal.returns
returns c =
    let a = c.args in
    pair_of a.named a.node a.which _ _ _ _ c.answer_given-still.ensures c.answer_given-turned.ensures _ _ _ c.least_of-first.ensures.found c.flag_of-f.ensures.0 c.either.ensures
