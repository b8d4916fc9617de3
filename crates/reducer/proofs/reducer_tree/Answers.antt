-- `reducer_tree` meets its contract. From those of `tree_call` and of its answer's number and value.
use mathlib.Core.Path.{refl, ap, ◌∙◌}
use Rattle.graph.specs.Answer.{Outcome}
use Rattle.answers.proofs.Same.{numbered}
use Rattle.reducer.proofs.Left.{same_kept, saving_left}
use Rattle.reducer.proofs.reducer_tree.Goals as goal

pub returns : goal.returns
returns c =
    let t = c.tree_call-answer.ensures in
    record {
      saving = saving_left _ _ (c.refusal_number.ensures ∙ numbered _ _ (λ x. refl)) _ _ _ c.saving_told.ensures t.outcome;
      scratch = same_kept _ _ (ap (λ (o : Outcome). o.answer) t.outcome) t.scratch;
    }
