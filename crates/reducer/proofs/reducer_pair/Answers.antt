-- `reducer_pair` meets its contract. From those of `pair_call` and of its answer's number and value.
use mathlib.Core.Path.{refl, ◌∙◌}
use Rattle.answers.proofs.Same.{numbered}
use Rattle.reducer.proofs.Left.{saving_left}
use Rattle.reducer.proofs.reducer_pair.Goals as goal

pub returns : goal.returns
returns c = saving_left _ _ (c.refusal_number.ensures ∙ numbered _ _ (λ x. refl)) _ _ _ c.saving_told.ensures c.pair_call-answer.ensures
