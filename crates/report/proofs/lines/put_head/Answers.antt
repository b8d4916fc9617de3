-- `put_head` meets its contract: two lines, one after the other. From the laws on lines.
use native.Mathlib.Omega.{arith}
use Rattle.report.specs.Report.{sizes_line, counts_line, inputs_text, nodes_text, outputs_text, before_text, after_text, rounds_text}
use Rattle.report.proofs.Put.{two_lines}
use Rattle.report.proofs.LineLaws.{length_sizes, length_counts}
use Rattle.report.proofs.lines.put_head.Goals as goal

pub put_line3-end-requires : goal.put_line3-end-requires
unfolding inputs_text nodes_text outputs_text
put_line3-end-requires c = let a = c.args in let l = length_sizes a.lent.now.inputs a.lent.now.nodes a.lent.now.outputs (omega arith) (omega arith) (omega arith) in omega arith

pub put_line3-requires : goal.put_line3-requires
unfolding inputs_text nodes_text outputs_text before_text after_text rounds_text
put_line3-requires c =
    let a = c.args in
    let l = length_sizes a.lent.now.inputs a.lent.now.nodes a.lent.now.outputs (omega arith) (omega arith) (omega arith) in
    let m = length_counts a.settled.before a.settled.after a.settled.rounds (omega arith) (omega arith) (omega arith) in
    omega arith

pub returns : goal.returns
unfolding inputs_text nodes_text outputs_text before_text after_text rounds_text sizes_line counts_line
returns c =
    let a = c.args in
    let l = length_sizes a.lent.now.inputs a.lent.now.nodes a.lent.now.outputs (omega arith) (omega arith) (omega arith) in
    let m = length_counts a.settled.before a.settled.after a.settled.rounds (omega arith) (omega arith) (omega arith) in
    two_lines a.buffer.now _ _ (sizes_line a.lent.now.inputs a.lent.now.nodes a.lent.now.outputs) (counts_line a.settled.before a.settled.after a.settled.rounds) _ _ 54 53 l m c.put_line3-end.ensures c.put_line3.ensures
