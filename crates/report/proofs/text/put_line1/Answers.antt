-- `put_line1` meets its contract: a numbered text, and a newline after it. From the laws on texts put in a row.
use native.Mathlib.Omega.{arith}
use mathlib.Core.Path.{refl}
use mathlib.Core.List.{[], ◌∷◌}
use Rattle.report.specs.Report.{numbered, line1}
use Rattle.tagged_file.proofs.Stores.{in_a_row}
use Rattle.report.proofs.Put.{room_first, room_byte}
use Rattle.report.proofs.text.put_line1.Goals as goal

pub put_numbered-end-requires : goal.put_numbered-end-requires
unfolding line1
put_numbered-end-requires c = let a = c.args in room_first (numbered a.t.now a.a) (10 ∷ []) _ _ c.requires

pub bounds-buffer-end : goal.bounds-buffer-end
unfolding line1
bounds-buffer-end c = let a = c.args in let r = room_byte (numbered a.t.now a.a) 10 _ _ _ c.requires c.put_numbered-end.ensures.0 in omega arith

pub overflow_add-result : goal.overflow_add-result
unfolding line1
overflow_add-result c = let a = c.args in let r = room_byte (numbered a.t.now a.a) 10 _ _ _ c.requires c.put_numbered-end.ensures.0 in omega arith

pub returns : goal.returns
unfolding line1
returns c = let a = c.args in in_a_row a.buffer.now _ _ (numbered a.t.now a.a) (10 ∷ []) _ _ _ c.put_numbered-end.ensures (refl, refl)
