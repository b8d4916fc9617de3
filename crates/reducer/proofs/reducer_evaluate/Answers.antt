-- `reducer_evaluate` meets its contract. From those of `evaluate` and of its answer's number.
use mathlib.Core.Path.{refl, ap, ◌∙◌}
use Rattle.graph.specs.Answer.{Answer}
use Rattle.answers.proofs.Same.{numbered}
use Rattle.reducer.proofs.Left.{number_is}
use Rattle.reducer.proofs.reducer_evaluate.Goals as goal

pub returns : goal.returns
returns c =
    let e = c.evaluate-answer.ensures in
    record {
      answer = c.refusal_number.ensures ∙ numbered _ _ (λ x. refl) ∙ ap (λ (a : Answer). a.number) e.answer ∙ number_is _;
      results = e.results;
      scratch = rw e.answer at e.scratch;
    }
