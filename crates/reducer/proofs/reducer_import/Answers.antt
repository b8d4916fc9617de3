-- `reducer_import` meets its contract. From those of `import` and of its answer's number and values.
use mathlib.Core.Path.{refl, ◌∙◌}
use Rattle.answers.proofs.Same.{numbered}
use Rattle.reducer.proofs.Left.{loaded_nodes, loaded_outputs, graph_left}
use Rattle.reducer.proofs.reducer_import.Goals as goal

pub returns : goal.returns
returns c =
    let l = c.import-answer in
    graph_left _ _ (c.refusal_number.ensures ∙ numbered _ _ (λ x. refl)) _ _ _ _ _ _ _ _ c.loaded_told.ensures (loaded_nodes l.result _ _) (loaded_outputs l.result _ _) l.ensures
