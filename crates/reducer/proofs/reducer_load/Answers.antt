-- `reducer_load` meets its contract. From those of `load` and of its answer's number and values.
use mathlib.Core.Path.{refl, ◌∙◌}
use Rattle.answers.proofs.Same.{numbered}
use Rattle.reducer.proofs.Left.{loaded_nodes, loaded_outputs, graph_left}
use Rattle.reducer.proofs.reducer_load.Goals as goal

pub returns : goal.returns
returns c =
    let l = c.load-answer in
    graph_left _ _ (c.refusal_number.ensures ∙ numbered _ _ (λ x. refl)) _ _ _ _ _ _ _ _ c.loaded_told.ensures (loaded_nodes l.result _ _) (loaded_outputs l.result _ _) l.ensures
