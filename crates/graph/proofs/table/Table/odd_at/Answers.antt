-- `odd_at` meets its contract. From the bit of a place.
use Rattle.std.proofs.Common.{sym, ◌∙◌, arith}
use Rattle.graph.proofs.Literals.{bit_at_lem, held_bit, held_literals}
use Rattle.graph.proofs.table.Table.odd_at.Goals as goal

pub bit_at-requires : goal.bit_at-requires
bit_at-requires c = let a = c.args in omega (arith, held_literals a.self.now.indices.now a.self.now.bits.now)

pub returns : goal.returns
returns c =
    let a = c.args in
    let us = a.self.now.indices.now in
    let bs = a.self.now.bits.now in
    (c.bit_at.ensures.0 ∙ sym (bit_at_lem us bs a.j (held_bit us bs a.j c.requires)), c.bit_at.ensures.1)
