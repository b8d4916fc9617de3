-- `reducer_trial` meets its contract. From those of `trial` and of its answer's number and value.
use mathlib.Core.Path.{refl, ap, ◌∙◌}
use Rattle.graph.proofs.Difference.{read_as_lem}
use Rattle.graph.specs.Answer.{Answer}
use Rattle.answers.proofs.Same.{numbered, same_gain}
use Rattle.reducer.proofs.reducer_trial.Goals as goal

pub returns : goal.returns
returns c =
    let e = c.trial-answer.ensures in
    ((c.refusal_number.ensures ∙ numbered _ _ (λ x. refl)) ∙ ap (λ (t : Answer). t.number) e, read_as_lem _ c.gain_told-after.type_inv ∙ c.gain_told-after.ensures ∙ same_gain e (read_as_lem _ c.before-1.given))
