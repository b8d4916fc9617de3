-- `odd_by` meets its contract. From the bounds on a node's numbers.
use Rattle.std.proofs.Common.{◌-◌, arith}
use Rattle.moves.specs.Outside.{odd_by}
use Rattle.moves.proofs.Deciding.{either_le}
use Rattle.moves.proofs.gains.odd_by.Goals as goal

pub returns : goal.returns
unfolding odd_by
returns c =
    let n = c.args.node in
    let k = c.requires.numbers in
    (c.either.ensures, omega (arith, either_le c.args.f n.odd (n.readers - n.odd), c.either.ensures, k.some, k.few))
