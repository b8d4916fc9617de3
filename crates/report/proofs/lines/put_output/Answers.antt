-- `put_output` meets its contract: an output's line. From the laws on lines.
use native.Mathlib.Omega.{arith}
use mathlib.Core.Path.{refl}
use Rattle.report.specs.Report.{output_line, out_text, line1}
use Rattle.report.proofs.Put.{put_as}
use Rattle.report.proofs.LineLaws.{length_out}
use Rattle.report.proofs.lines.put_output.Goals as goal

pub put_line1-requires : goal.put_line1-requires
unfolding out_text
put_line1-requires c = let a = c.args in let l = length_out a.x (omega arith) in omega arith

pub returns : goal.returns
unfolding out_text output_line
returns c =
    let a = c.args in
    let l = length_out a.x (omega arith) in
    put_as a.buffer.now _ (line1 out_text a.x) (output_line a.x) _ _ 15 refl (omega arith) c.put_line1.ensures
