-- `reducer_assignment` meets its contract. From those of `find_assignment` and of its answer's number and values.
use mathlib.Core.Path.{refl, ap, ◌∙◌}
use Rattle.graph.specs.Answer.{Answer}
use Rattle.answers.proofs.Same.{numbered, same_told}
use Rattle.reducer.proofs.Left.{same_kept}
use Rattle.reducer.proofs.reducer_assignment.Goals as goal

pub returns : goal.returns
returns c =
    let t = c.find_assignment-answer.ensures in
    record {
      found = ((c.refusal_number.ensures ∙ numbered _ _ (λ x. refl)) ∙ ap (λ (a : Answer). a.number) t.call, c.assigned_told.ensures ∙ same_told _ t.call);
      scratch = same_kept _ _ t.call t.scratch;
    }
