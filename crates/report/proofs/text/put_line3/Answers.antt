-- `put_line3` meets its contract: a numbered text, and the rest of the line after it. From the laws on texts put in a row.
use native.Mathlib.Omega.{arith}
use Rattle.report.specs.Report.{numbered, line2, line3}
use Rattle.tagged_file.proofs.Stores.{in_a_row}
use Rattle.report.proofs.Put.{room_first, room_rest}
use Rattle.report.proofs.text.put_line3.Goals as goal

pub put_numbered-middle-requires : goal.put_numbered-middle-requires
unfolding line3
put_numbered-middle-requires c = let a = c.args in room_first (numbered a.t.now a.a) (line2 a.u.now a.b a.v.now a.c) _ _ c.requires

pub put_line2-requires : goal.put_line2-requires
unfolding line3
put_line2-requires c = let a = c.args in room_rest (numbered a.t.now a.a) (line2 a.u.now a.b a.v.now a.c) _ _ _ _ c.requires c.put_numbered-middle.ensures.0 (omega arith)

pub returns : goal.returns
unfolding line3
returns c = let a = c.args in in_a_row a.buffer.now _ _ (numbered a.t.now a.a) (line2 a.u.now a.b a.v.now a.c) _ _ _ c.put_numbered-middle.ensures c.put_line2.ensures
