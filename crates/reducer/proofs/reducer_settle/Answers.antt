-- `reducer_settle` meets its contract. From those of `settle` and of its answer's number and values.
use mathlib.Core.Path.{refl, ap, ◌∙◌}
use Rattle.graph.specs.Answer.{Outcome}
use Rattle.answers.proofs.Same.{numbered, same_told}
use Rattle.reducer.proofs.Left.{same_kept, saving_left}
use Rattle.reducer.proofs.reducer_settle.Goals as goal

pub returns : goal.returns
returns c =
    let t = c.settle-answer.ensures in
    let a = ap (λ (o : Outcome). o.answer) t.call in record {
      saving = saving_left _ _ (c.refusal_number.ensures ∙ numbered _ _ (λ x. refl)) _ _ _ c.settled_sums.ensures t.call;
      figures = c.settled_told.ensures ∙ same_told _ a;
      scratch = same_kept _ _ a t.scratch;
    }
