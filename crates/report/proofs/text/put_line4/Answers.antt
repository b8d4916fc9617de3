-- `put_line4` meets its contract: a numbered text, and the rest of the line after it. From the laws on texts put in a row.
use native.Mathlib.Omega.{arith}
use Rattle.report.specs.Report.{numbered, line3, line4}
use Rattle.tagged_file.proofs.Stores.{in_a_row}
use Rattle.report.proofs.Put.{room_first, room_rest}
use Rattle.report.proofs.text.put_line4.Goals as goal

pub put_numbered-middle-requires : goal.put_numbered-middle-requires
unfolding line4
put_numbered-middle-requires c = let a = c.args in room_first (numbered a.t.now a.a) (line3 a.u.now a.b a.v.now a.c a.w.now a.d) _ _ c.requires

pub put_line3-requires : goal.put_line3-requires
unfolding line4
put_line3-requires c = let a = c.args in room_rest (numbered a.t.now a.a) (line3 a.u.now a.b a.v.now a.c a.w.now a.d) _ _ _ _ c.requires c.put_numbered-middle.ensures.0 (omega arith)

pub returns : goal.returns
unfolding line4
returns c = let a = c.args in in_a_row a.buffer.now _ _ (numbered a.t.now a.a) (line3 a.u.now a.b a.v.now a.c a.w.now a.d) _ _ _ c.put_numbered-middle.ensures c.put_line3.ensures
