-- `put_word` meets its contract. From the law of a word put, its bit gathered.
use Rattle.std.proofs.Common.{arith}
use Rattle.graph.proofs.Filled.{put_open, put_full}
use Rattle.graph.proofs.Literals.{held_literals}
use Rattle.graph.proofs.table.put_word.Goals as goal

pub offset_bounds-table-j : goal.offset_bounds-table-j
offset_bounds-table-j c = let a = c.args in omega (arith, held_literals a.table.now a.bits.now)

pub bounds-table-j : goal.bounds-table-j
bounds-table-j c = let a = c.args in omega (arith, held_literals a.table.now a.bits.now)

pub returns-then-j-ne63 : goal.returns-then-j-ne63
returns-then-j-ne63 c =
    let u = c.stored_index in
    let g = c.gathered-more in
    let b = c.stored_bit in
    let a = c.args in
    rw g.ensures
    (put_open a.table.now a.bits.now a.j a.got u.result b.result a.x c.requires.0 (omega arith) (omega arith) b.ensures.1 (rw b.ensures.0 u.ensures) c.if-j-ne63.true)

pub bounds-bits-j : goal.bounds-bits-j
bounds-bits-j c = let a = c.args in omega (arith, held_literals a.table.now a.bits.now)

pub returns : goal.returns
returns c =
    let u = c.stored_index in
    let g = c.gathered-more in
    let b = c.stored_bit in
    let a = c.args in
    rw g.ensures
    (put_full a.table.now a.bits.now a.j a.got u.result b.result a.x c.requires.0 (omega arith) (omega arith) b.ensures.1 (rw b.ensures.0 u.ensures) _ (omega (arith, c.if-j-ne63.false)))
