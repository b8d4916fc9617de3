-- `reducer_majority` meets its contract. From those of `majority_call` and of its answer's number and value.
use mathlib.Core.Path.{refl, ap, ◌∙◌}
use Rattle.graph.specs.Answer.{Outcome}
use Rattle.hidden.specs.Call.{told_majority}
use Rattle.hidden.specs.declared.Majority.TheVariants.{Made, NotMajority, NotCovered}
use Rattle.answers.proofs.Same.{numbered, same_one}
use Rattle.reducer.proofs.Left.{same_kept}
use Rattle.reducer.proofs.reducer_majority.Goals as goal

pub returns : goal.returns
returns c =
    let t = c.majority_call-became.ensures in
    let a = ap (λ (o : Outcome). o.answer) t.outcome in record {
      answer = (
        (c.refusal_number.ensures ∙ numbered told_majority _ (elim [ Made ↦ refl | NotMajority ↦ refl | NotCovered ↦ refl ])) ∙ ap (λ (o : Outcome). o.answer.number) t.outcome,
        ap (λ (o : Outcome). o.graph) t.outcome,
        c.majority_told.ensures ∙ same_one _ a,
      );
      scratch = same_kept _ _ a t.scratch;
    }
