-- `trial` meets its contract. From the laws on faults and outcomes.
use mathlib.Core.Path.{sym, ap, ◌∙◌}
use Rattle.graph.specs.Graph.{Graph}
use Rattle.graph.specs.Answer.{whole}
use Rattle.graph.proofs.Answers.{ends_call, accepted_is}
use Rattle.graph.proofs.Difference.{read_as_lem}
use Rattle.moves.specs.Call.{trial_number, trial_saving, trial_call}
use Rattle.node_call.proofs.trial.Goals as goal
use Rattle.node_call.proofs.trial.Goals.{Start}
use Rattle.graph.specs.Tables.{lent_graph}

abbrev graph : Start → Graph
graph s = let a = s.args in lent_graph a.lent.now

pub returns-in_err-check_trial : goal.returns-in_err-check_trial
unfolding trial_call
returns-in_err-check_trial c = ends_call _ _ _ _ _ c.from_residual.ensures.1 c.in_err-check_trial.ensures

pub returns : goal.returns
unfolding trial_call
returns c =
    let a = c.args in
    ap whole (read_as_lem _ c.named_saving.type_inv ∙ c.named_saving.ensures)
    ∙ accepted_is (trial_number (graph (goal.at.returns c).Start) a.lent.now.locks.now a.node a.word a.named_move a.node_move) (whole (trial_saving (graph (goal.at.returns c).Start) a.node a.word a.named_move a.node_move)) (sym c.in_ok-check_trial.ensures)
