-- `put_three` meets its contract. From the laws of words put one after another, and of three whose bits fill no word.
use Rattle.std.proofs.Common.{◌≡◌, ◌+◌, ◌≤◌, length, arith, length-set}
use Rattle.graph.proofs.Filled.{in_a_row, put_three}
use Rattle.graph.proofs.Literals.{held_literals}
use Rattle.graph.proofs.table.put_three.Goals as goal
use Rattle.graph.proofs.table.put_three.Goals.{Start}

room : (s : Start) → s.args.j + 3 ≤ length s.args.table.now
room s = omega (arith, s.requires.0, held_literals s.args.table.now s.args.bits.now)

pub put_word-one-requires : goal.put_word-one-requires
put_word-one-requires c = (omega (arith, c.requires.0), c.requires.1)

pub overflow_add-j : goal.overflow_add-j
overflow_add-j c = omega (arith, room (goal.at.overflow_add-j c).Start)

pub put_word-two-requires : goal.put_word-two-requires
put_word-two-requires c =
    let a = c.args in
    (omega (arith, c.requires.0, c.put_word-one.auto.table, c.put_word-one.auto.bits, held_literals c.put_word-one.new.table c.put_word-one.new.bits, held_literals a.table.now a.bits.now), c.requires.2)

pub overflow_add-j-then-j-gt60 : goal.overflow_add-j-then-j-gt60
overflow_add-j-then-j-gt60 c = omega (arith, room (goal.at.overflow_add-j-then-j-gt60 c).Start)

pub put_word-requires : goal.put_word-requires
put_word-requires c =
    let a = c.args in
    (omega (arith, c.requires.0, c.put_word-one.auto.table, c.put_word-one.auto.bits, c.put_word-two.auto.table, c.put_word-two.auto.bits, held_literals c.put_word-two.new.table c.put_word-two.new.bits, held_literals a.table.now a.bits.now), c.requires.3)

pub returns-then-j-gt60 : goal.returns-then-j-gt60
returns-then-j-gt60 c =
    let a = c.args in
    let e : a.j + 1 + 1 ≡ a.j + 2 = omega arith in
    let f : a.j + 2 + 1 ≡ a.j + 3 = omega arith in
    in_a_row _ _ _ _ a.j a.x a.y a.z (rw e at c.put_word-two.ensures) (rw f at c.put_word.ensures) c.put_word-one.ensures

pub offset_bounds-table-j : goal.offset_bounds-table-j
offset_bounds-table-j c = omega (arith, room (goal.at.offset_bounds-table-j c).Start)

pub bounds-table-j : goal.bounds-table-j
bounds-table-j c = omega (arith, room (goal.at.bounds-table-j c).Start)

pub overflow_add-table : goal.overflow_add-table
overflow_add-table c = omega (arith, room (goal.at.overflow_add-table c).Start)

pub offset_bounds-table-j-2 : goal.offset_bounds-table-j-2
offset_bounds-table-j-2 c = omega (arith, room (goal.at.offset_bounds-table-j-2 c).Start)

pub bounds-table-j-2 : goal.bounds-table-j-2
bounds-table-j-2 c = simp length-set (omega (arith, room (goal.at.bounds-table-j-2 c).Start))

pub overflow_add-table-2 : goal.overflow_add-table-2
overflow_add-table-2 c = omega (arith, room (goal.at.overflow_add-table-2 c).Start)

pub offset_bounds-table-j-3 : goal.offset_bounds-table-j-3
offset_bounds-table-j-3 c = omega (arith, room (goal.at.offset_bounds-table-j-3 c).Start)

pub bounds-table-j-3 : goal.bounds-table-j-3
bounds-table-j-3 c = simp (length-set, length-set) (omega (arith, room (goal.at.bounds-table-j-3 c).Start))

pub returns : goal.returns
returns c =
    let f = c.stored_bit-3 in
    let d = c.stored_bit-2 in
    let b = c.stored_bit in
    let w = c.stored_index-3 in
    let v = c.stored_index-2 in
    let u = c.stored_index in
    let a = c.args in
    rw c.gathered_three.ensures
    (put_three a.table.now a.bits.now a.j a.got u.result b.result a.x v.result d.result a.y w.result f.result a.z c.requires.0 (omega arith)
    (omega arith) (omega arith) b.ensures.1 (rw b.ensures.0 u.ensures) (omega arith) d.ensures.1 (rw d.ensures.0 v.ensures) (omega arith) f.ensures.1
    (rw f.ensures.0 w.ensures))
