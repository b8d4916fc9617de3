-- `index_at` meets its contract. From what a place holds.
use Rattle.std.proofs.Common.{arith}
use Rattle.graph.specs.Literals.{bit_at, index_at}
use Rattle.graph.proofs.Literals.{bit_at_le, index_at_le, literal_names, held_at, held_literals}
use Rattle.graph.proofs.table.Table.index_at.Goals as goal

pub raw_at-requires : goal.raw_at-requires
raw_at-requires c = let a = c.args in omega (arith, held_literals a.self.now.indices.now a.self.now.bits.now)

pub returns : goal.returns
returns c =
    let a = c.args in
    let us = a.self.now.indices.now in
    let bs = a.self.now.bits.now in
    rw (c.raw_at.ensures, held_at us bs a.j c.requires) (literal_names (index_at us a.j) (bit_at bs a.j) (index_at_le us a.j) (bit_at_le bs a.j))
