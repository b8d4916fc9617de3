-- `reducer_class` meets its contract. From those of `enter` and of its answer's number and values.
use mathlib.Core.Path.{refl, ap, ◌∙◌}
use Rattle.class_figures.specs.Call.{ClassOutcome}
use Rattle.answers.proofs.Same.{numbered}
use Rattle.reducer.proofs.Left.{same_kept, class_left}
use Rattle.reducer.proofs.reducer_class.Goals as goal

pub returns : goal.returns
returns c =
    let t = c.enter-answer.ensures in
    record {
      call = class_left _ _ (c.refusal_number.ensures ∙ numbered _ _ (λ x. refl)) _ _ _ _ _ c.settled_told.ensures c.settled_sums.ensures t.call;
      scratch = same_kept _ _ (ap (λ (o : ClassOutcome). o.answer) t.call) t.scratch;
    }
