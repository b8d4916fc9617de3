-- `turn_word` meets its contract. From the law of one bit turned.
use Rattle.std.proofs.Common.{arith}
use Rattle.graph.proofs.Literals.{held_literals}
use Rattle.graph.proofs.Places.{literals_turned}
use Rattle.graph.proofs.table.turn_word.Goals as goal

pub bounds-bits-k : goal.bounds-bits-k
bounds-bits-k c = let a = c.args in omega (arith, held_literals a.table.now a.bits.now)

pub bounds-bits-k-2 : goal.bounds-bits-k-2
bounds-bits-k-2 c = let a = c.args in omega (arith, held_literals a.table.now a.bits.now)

pub returns : goal.returns
returns c =
    let a = c.args in
    literals_turned a.table.now a.bits.now a.j a.t c.flipped.result c.requires.1 c.requires.2 c.flipped.ensures
