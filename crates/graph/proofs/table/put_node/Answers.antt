-- `put_node` meets its contract. From the law of three words whose bits fill no word.
use Rattle.std.proofs.Common.{◌+◌, ◌/◌, ◌%◌, ◌≤◌, length, arith, length-set}
use Rattle.graph.proofs.Filled.{put_three}
use Rattle.graph.proofs.Literals.{held_literals, parts_low}
use Rattle.graph.proofs.table.put_node.Goals as goal
use Rattle.graph.proofs.table.put_node.Goals.{Start}

room : (s : Start) → s.args.j + 3 ≤ length s.args.table.now
room s = omega (arith, s.requires.0, held_literals s.args.table.now s.args.bits.now)

pub put_three-requires : goal.put_three-requires
put_three-requires c = (c.requires.0, (λ n. c.requires.1), (λ n. c.requires.2), c.requires.3)

pub offset_bounds-table-j : goal.offset_bounds-table-j
offset_bounds-table-j c = omega (arith, room (goal.at.offset_bounds-table-j c).Start)

pub bounds-table-j : goal.bounds-table-j
bounds-table-j c = omega (arith, room (goal.at.bounds-table-j c).Start)

pub offset_bounds-table-j-2 : goal.offset_bounds-table-j-2
offset_bounds-table-j-2 c = omega (arith, room (goal.at.offset_bounds-table-j-2 c).Start)

pub bounds-table-j-2 : goal.bounds-table-j-2
bounds-table-j-2 c = simp length-set (omega (arith, room (goal.at.bounds-table-j-2 c).Start))

pub offset_bounds-table-j-3 : goal.offset_bounds-table-j-3
offset_bounds-table-j-3 c = omega (arith, room (goal.at.offset_bounds-table-j-3 c).Start)

pub bounds-table-j-3 : goal.bounds-table-j-3
bounds-table-j-3 c = simp (length-set, length-set) (omega (arith, room (goal.at.bounds-table-j-3 c).Start))

pub returns : goal.returns
returns c =
    let f = c.stored_bit in
    let w = c.stored_index in
    let a = c.args in
    rw c.gathered_three.ensures
    (put_three a.table.now a.bits.now a.j a.got (a.x / 2) (a.x % 2) a.x (a.y / 2) (a.y % 2) a.y w.result f.result a.z c.requires.0 (omega arith)
    (omega arith) (omega arith) (omega arith) (parts_low a.x c.requires.1).0 (omega arith) (omega arith) (parts_low a.y c.requires.2).0 (omega arith) f.ensures.1
    (rw f.ensures.0 w.ensures))
