-- `reducer_many` meets its contract. From those of `many` and of its answer's number and value.
use mathlib.Core.Path.{refl, ap, ◌∙◌}
use Rattle.graph.proofs.Difference.{read_as_lem}
use Rattle.graph.specs.Answer.{Outcome}
use Rattle.answers.proofs.Same.{numbered, same_gain}
use Rattle.reducer.proofs.reducer_many.Goals as goal

pub returns : goal.returns
returns c =
    let e = c.many-answer.ensures in
    record {
      number = (c.refusal_number.ensures ∙ numbered _ _ (λ x. refl)) ∙ ap (λ (o : Outcome). o.answer.number) e;
      graph = ap (λ (o : Outcome). o.graph) e;
      tells = read_as_lem _ c.gain_told-after.type_inv ∙ c.gain_told-after.ensures ∙ same_gain (ap (λ (o : Outcome). o.answer) e) (read_as_lem _ c.before-1.given);
    }
