-- `put_numbered` meets its contract: a text, and a number after it. From the laws on texts put in a row.
use native.Mathlib.Omega.{arith}
use Rattle.graph.specs.Finite.{decimal}
use Rattle.report.specs.Report.{numbered}
use Rattle.tagged_file.proofs.Stores.{in_a_row}
use Rattle.report.proofs.Put.{room_first, room_rest}
use Rattle.report.proofs.text.put_numbered.Goals as goal

pub put_text-middle-requires : goal.put_text-middle-requires
unfolding numbered
put_text-middle-requires c = let a = c.args in room_first a.text.now (decimal a.a) _ _ c.requires

pub put-requires : goal.put-requires
unfolding numbered
put-requires c = let a = c.args in room_rest a.text.now (decimal a.a) _ _ _ _ c.requires c.put_text-middle.ensures.0 (omega arith)

pub returns : goal.returns
unfolding numbered
returns c = let a = c.args in in_a_row a.buffer.now _ _ a.text.now (decimal a.a) _ _ _ c.put_text-middle.ensures c.put.ensures
