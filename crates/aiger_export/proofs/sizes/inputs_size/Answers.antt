-- `inputs_size` meets its contract: the widths of the lines passed are added up. From the laws on lengths in a row.
use mathlib.Core.Path.{sym, ◌∙◌}
use Rattle.aiger_export.proofs.Summed.{summed_start, summed_more, summed_end}
use Rattle.aiger_export.proofs.Widths.{input_wide}
use native.Mathlib.Omega.{arith}
use Rattle.aiger_export.proofs.sizes.inputs_size.Goals as goal

pub loop-k-init : goal.loop-k-init
loop-k-init c = summed_start _ _

pub loop-k-preserved : goal.loop-k-preserved
loop-k-preserved c =
    let l = c.loop-k in
    let w = c.text_wide-size.ensures in
    summed_more _ _ l.size l.k l.invariant (omega arith) _ (w.0 ∙ sym (input_wide l.k (omega arith))) (omega arith)

pub returns : goal.returns
returns c = summed_end _ _ _ _ c.loop-k.invariant (omega arith)
