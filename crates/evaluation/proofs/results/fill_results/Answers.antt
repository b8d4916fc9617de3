-- `results::fill_results` meets its contract. The invariant: results swept up to the output met. From the laws on sweeps.
use mathlib.Core.Path.{◌≡◌, refl, ◌∙◌}
use native.Mathlib.Omega.{arith}
use lib.ListN.{length-set}
use Rattle.graph.proofs.Sweep.{swept_zero, swept_front}
use Rattle.evaluation.specs.Inner.{by_index, output_word_from}
use Rattle.evaluation.proofs.Outputs.{swept_next}
use Rattle.evaluation.proofs.results.fill_results.Goals as goal
use Rattle.graph.specs.Tables.{lent_table}

pub loop-o-init : goal.loop-o-init
loop-o-init c =
    let a = c.args in
    (omega arith, refl, refl, swept_zero (output_word_from (by_index a.words.now.inputs a.words.now.of_inputs.now a.words.now.of_nodes.now) (lent_table a.lent.now.output_table)) a.results.now)

pub literal_word-requires : goal.literal_word-requires
literal_word-requires c =
    let e = c.requires.4 c.loop-o.o (omega arith) in
    (omega arith, (omega (arith, e, c.requires.1), (c.requires.0, e)), c.odd_at-b.ensures.0, c.odd_at-b.ensures.1)

pub loop-o-preserved : goal.loop-o-preserved
loop-o-preserved c =
    let a = c.args in
    let ws = by_index a.words.now.inputs a.words.now.of_inputs.now a.words.now.of_nodes.now in (
      omega arith,
      c.loop-o.invariant.1,
      simp length-set c.loop-o.invariant.2,
      swept_next ws (lent_table a.lent.now.output_table) a.results.now c.loop-o.results c.loop-o.o c.literal_word.result
          (omega arith) c.loop-o.invariant.3 c.literal_word.ensures,
    )

pub returns : goal.returns
returns c =
    let a = c.args in
    let e : c.loop-o.o ≡ a.lent.now.outputs = omega arith in
    rw e at c.loop-o.invariant.3 ∙ swept_front (output_word_from (by_index a.words.now.inputs a.words.now.of_inputs.now a.words.now.of_nodes.now) (lent_table a.lent.now.output_table)) a.results.now a.lent.now.outputs (omega arith)
