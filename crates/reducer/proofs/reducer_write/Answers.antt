-- `reducer_write` meets its contract. From those of `write` and of its answer's number and value.
use mathlib.Core.Path.{refl, ◌∙◌}
use Rattle.answers.proofs.Same.{numbered}
use Rattle.reducer.proofs.Left.{text_left}
use Rattle.reducer.proofs.reducer_write.Goals as goal

pub returns : goal.returns
returns c = text_left _ _ (c.refusal_number.ensures ∙ numbered _ _ (λ x. refl)) _ _ _ c.written_told.ensures c.write-answer.ensures
