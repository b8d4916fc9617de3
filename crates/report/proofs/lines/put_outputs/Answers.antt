-- `put_outputs` meets its contract: the lines that are left come to the whole. From the laws on fields in a row.
use Rattle.std.proofs.Common.{◌≡◌, ◌-◌, length, refl, ap, ◌∙◌, arith}
use lib.Seq.{sets}
use Rattle.graph.specs.Tables.{lent_table}
use Rattle.report.specs.Report.{output_line, output_line_at}
use Rattle.report.proofs.Put.{left_next}
use Rattle.tagged_file.proofs.Emitted.{left_none}
use Rattle.report.proofs.lines.put_outputs.Goals as goal

pub loop-j-init : goal.loop-j-init
loop-j-init c =
    let n = c.args.outputs in
    let e : n - 0 ≡ n = omega arith in
    (omega arith, rw e (record { counted = omega arith; fits = refl; same = refl; bytes = refl }), omega arith)

pub word_at-requires : goal.word_at-requires
word_at-requires c = (omega arith, c.requires.fact.1 _ (omega arith))

pub put_output-at-requires : goal.put_output-at-requires
put_output-at-requires c = omega (arith, c.loop-j.invariant.1.same)

pub loop-j-preserved : goal.loop-j-preserved
unfolding output_line_at
loop-j-preserved c =
    let l = c.loop-j in
    let a = c.args in
    let p = c.put_output-at.ensures in
    let e = ap output_line c.word_at.ensures in
    (omega arith, left_next (output_line_at (lent_table a.output_table.now)) _ _ _ l.buffer l.at l.j l.invariant.1 (omega arith) _ _ (p.2 ∙ ap (sets l.buffer l.at) e) (omega (arith, p.0, ap length e)), omega arith)

pub shape_of-buffer : goal.shape_of-buffer
shape_of-buffer c = c.loop-j.invariant.1.same

pub returns : goal.returns
returns c =
    let l = c.loop-j in
    let a = c.args in
    let e = left_none (output_line_at (lent_table a.output_table.now)) _ _ _ l.buffer l.at l.j _ l.invariant.1 (omega arith) in
    (e.0, omega arith, e.1)
