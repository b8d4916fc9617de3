-- `outputs_size` meets its contract: the widths of the lines passed are added up. From the laws on lengths in a row.
use mathlib.Core.Path.{sym, ap, ◌∙◌}
use Rattle.graph.proofs.Literals.{names_index}
use Rattle.graph.proofs.Words.{out_low}
use Rattle.aiger_export.specs.Inner.{wide_by}
use Rattle.aiger_export.proofs.Summed.{summed_start, summed_more, summed_end}
use Rattle.aiger_export.proofs.Widths.{output_wide}
use native.Mathlib.Omega.{arith}
use Rattle.aiger_export.proofs.sizes.outputs_size.Goals as goal

pub loop-j-init : goal.loop-j-init
loop-j-init c = summed_start _ _

pub loop-j-preserved : goal.loop-j-preserved
loop-j-preserved c =
    let w = c.wide_by-size.ensures in
    let i = c.loop-j in
    summed_more _ _ i.size i.j i.invariant (omega arith) _
    (w.0 ∙ ap (wide_by c.args.steps) (names_index c.index_at.ensures (out_low _ c.args.circuit.now.admitted i.j (omega arith))) ∙ sym (output_wide _ c.args.circuit.now.admitted c.args.steps c.requires i.j (omega arith)))
    (omega arith)

pub returns : goal.returns
returns c = summed_end _ _ _ _ c.loop-j.invariant (omega arith)
