-- `reducer_compare` meets its contract. From those of `compare` and of its answer's number and values.
use mathlib.Core.Path.{refl, ap, ◌∙◌}
use Rattle.compare.specs.Compare.{Compared}
use Rattle.answers.proofs.Same.{numbered, same_told}
use Rattle.reducer.proofs.reducer_compare.Goals as goal

pub returns : goal.returns
returns c =
    let e = c.compare-answer.ensures in (
      (c.refusal_number.ensures ∙ numbered _ _ (λ x. refl)) ∙ ap (λ (o : Compared). o.answer.number) e,
      ap (λ (o : Compared). o.moves) e,
      c.comparison_told.ensures ∙ same_told _ (ap (λ (o : Compared). o.answer) e),
    )
