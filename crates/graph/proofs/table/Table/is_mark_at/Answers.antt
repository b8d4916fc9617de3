-- `is_mark_at` meets its contract. From what a place holds.
use Rattle.std.proofs.Common.{arith}
use Rattle.graph.specs.Literals.{bit_at, index_at}
use Rattle.graph.proofs.Literals.{bit_at_le, index_at_le, literal_is_mark, held_at, held_literals}
use Rattle.graph.proofs.table.Table.is_mark_at.Goals as goal

pub raw_at-requires : goal.raw_at-requires
raw_at-requires c = let a = c.args in omega (arith, held_literals a.self.now.indices.now a.self.now.bits.now)

pub returns : goal.returns
returns c =
    let a = c.args in
    let us = a.self.now.indices.now in
    let bs = a.self.now.bits.now in
    let e = held_at us bs a.j c.requires.0 in
    rw (c.raw_at.ensures, e) (literal_is_mark (index_at us a.j) (bit_at bs a.j) (index_at_le us a.j) (bit_at_le bs a.j) (rw e at c.requires.1))
