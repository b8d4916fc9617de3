-- `reducer_find` meets its contract. From those of `find` and of its answer's number and value.
use mathlib.Core.Path.{refl, ap, ◌∙◌}
use Rattle.graph.specs.Answer.{LockedOutcome}
use Rattle.answers.proofs.Same.{numbered}
use Rattle.reducer.proofs.Left.{same_kept, found_left}
use Rattle.reducer.proofs.reducer_find.Goals as goal

pub returns : goal.returns
returns c =
    let t = c.find-answer.ensures in
    record {
      graph = found_left _ _ (c.refusal_number.ensures ∙ numbered _ _ (λ x. refl)) _ _ _ _ _ _ _ _ _ c.found_told.ensures t.outcome;
      scratch = same_kept _ _ (ap (λ (o : LockedOutcome). o.answer) t.outcome) t.scratch;
    }
