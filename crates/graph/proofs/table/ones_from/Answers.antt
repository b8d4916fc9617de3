-- `ones_from` meets its contract. From the law of the bits past the last literal.
use Rattle.std.proofs.Common.{◌/◌, sym, arith}
use Rattle.graph.proofs.Counted.{strays_ones}
use Rattle.graph.proofs.table.ones_from.Goals as goal

pub returns : goal.returns
returns c us =
    let a = c.args in
    sym (strays_ones us a.bits.now a.n c.requires.1 (omega (arith, c.requires.0)) (omega (arith, c.type_inv.bits (a.n / 64))))
