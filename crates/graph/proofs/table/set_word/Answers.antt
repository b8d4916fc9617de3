-- `set_word` meets its contract. From the law of one literal stored.
use Rattle.std.proofs.Common.{arith}
use Rattle.graph.proofs.Literals.{held_literals, held_index, held_bit}
use Rattle.graph.proofs.Places.{literals_stored}
use Rattle.graph.proofs.table.set_word.Goals as goal

pub bit_at-requires : goal.bit_at-requires
bit_at-requires c = let a = c.args in omega (arith, held_literals a.table.now a.bits.now)

pub offset_bounds-table-j : goal.offset_bounds-table-j
offset_bounds-table-j c = let a = c.args in omega (arith, held_literals a.table.now a.bits.now)

pub bounds-table-j : goal.bounds-table-j
bounds-table-j c = let a = c.args in omega (arith, held_literals a.table.now a.bits.now)

pub bounds-bits-k : goal.bounds-bits-k
bounds-bits-k c = let a = c.args in omega (arith, held_literals a.table.now a.bits.now)

pub bounds-bits-k-2 : goal.bounds-bits-k-2
bounds-bits-k-2 c = let a = c.args in omega (arith, held_literals a.table.now a.bits.now)

pub returns : goal.returns
returns c =
    let u = c.stored_index in
    let b = c.stored_bit in
    let t = c.bit_at in
    let a = c.args in
    let us = a.table.now in
    let bs = a.bits.now in
    literals_stored us bs a.j u.result b.result a.x c.flipped.result (held_index us bs a.j c.requires.0) (held_bit us bs a.j c.requires.0) (omega arith) b.ensures.1 (rw b.ensures.0 u.ensures) (rw t.ensures.0 at c.flipped.ensures)
