-- `reducer_count` meets its contract. From those of `complemented_edges` and of its answer's number and value.
use mathlib.Core.Path.{refl, ap, ◌∙◌}
use Rattle.graph.specs.Answer.{Answer}
use Rattle.answers.proofs.Same.{numbered, same_one}
use Rattle.reducer.proofs.reducer_count.Goals as goal

pub returns : goal.returns
returns c =
    let e = c.complemented_edges-answer.ensures in
    ((c.refusal_number.ensures ∙ numbered _ _ (λ x. refl)) ∙ ap (λ (a : Answer). a.number) e, c.count_told.ensures ∙ same_one _ e)
