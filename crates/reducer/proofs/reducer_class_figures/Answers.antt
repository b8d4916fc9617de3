-- `reducer_class_figures` meets its contract. From those of `figures` and of its answer's number and values.
use mathlib.Core.Path.{refl, ◌∙◌}
use Rattle.answers.proofs.Same.{numbered}
use Rattle.reducer.proofs.Left.{figures_left}
use Rattle.reducer.proofs.reducer_class_figures.Goals as goal

pub returns : goal.returns
returns c = figures_left _ _ (c.refusal_number.ensures ∙ numbered _ _ (λ x. refl)) _ _ _ c.figures_told.ensures c.improvement_told.ensures c.figures-answer.ensures
