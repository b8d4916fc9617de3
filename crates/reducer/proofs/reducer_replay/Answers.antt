-- `reducer_replay` meets its contract. From those of `replay` and of its answer's number and values.
use mathlib.Core.Path.{sym, ap, ◌∙◌}
use Rattle.graph.specs.Answer.{LockedOutcome}
use Rattle.reducer.proofs.Left.{same_kept, replayed_nodes, replayed_outputs, replayed_demand, graph_left}
use Rattle.reducer.proofs.reducer_replay.Goals as goal

pub returns : goal.returns
returns c =
    let p = c.replay-answer in
    let e = p.ensures.call in
    let t = c.replayed_told.ensures in record {
      graph = graph_left _ _ c.replayed_number.ensures _ _ _ _ _ _ _ _ t (replayed_nodes p.result _ _) (replayed_outputs p.result _ _) e;
      answers = p.ensures.answers;
      scratch = same_kept _ _ (ap (λ (o : LockedOutcome). o.answer) e) p.ensures.scratch;
      demand = λ z. replayed_demand p.result _ _ _ _ _ _ _ _ t p.ensures.demand (sym c.replayed_number.ensures ∙ z);
    }
