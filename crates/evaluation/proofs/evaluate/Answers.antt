-- `evaluate` meets its contract. From the contracts of the check and of the evaluation of an admitted graph.
use Rattle.std.proofs.Common.{refl, sym, ◌∙◌}
use lib.ListN.{length}
use Rattle.graph.specs.Tables.{lent_graph}
use Rattle.graph.proofs.Answers.{number_some, ends_call, accepted_is}
use Rattle.graph.proofs.Tests.{equal, unequal}
use Rattle.evaluation.specs.Evaluation.{results_after}
use Rattle.evaluation.proofs.Call.{lent}
use Rattle.evaluation.proofs.evaluate.Goals as goal

pub returns-in_err-check_evaluate : goal.returns-in_err-check_evaluate
unfolding results_after
returns-in_err-check_evaluate c =
    record {
      answer = ends_call _ _ _ _ _ c.from_residual.ensures.1 c.in_err-check_evaluate.ensures;
      results = unequal _ _ _ _ (λ z. number_some _ (c.in_err-check_evaluate.ensures ∙ z)) refl;
      scratch = λ z. refl;
    }

pub evaluate_words-requires : goal.evaluate_words-requires
evaluate_words-requires c =
    let a = c.args in
    let l = lent (lent_graph a.lent.now) a.lent.now.locks.now (length a.input_words.now) (length a.scratch.now) (length a.results.now) (sym c.in_ok-check_evaluate.ensures) in
    (l.admitted, l.words, l.scratch, l.results)

pub returns : goal.returns
unfolding results_after
returns c =
    let z = sym c.in_ok-check_evaluate.ensures in
    record { answer = accepted_is _ _ z; results = equal _ _ _ _ z c.evaluate_words.ensures; scratch = λ n. absurd (n refl) }
