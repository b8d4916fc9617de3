-- `found_answer` meets its contract: the new number of nodes is told, and left.
use Rattle.std.proofs.Common.{◌∙◌}
use Rattle.replay.proofs.One.{nodes_left}
use Rattle.replay.proofs.calls.found_answer.Goals as goal

pub returns : goal.returns
returns c =
    let q = c.value_answer.ensures in
    record { number = q.number; own = q.own; others = q.others; nodes = q.nodes ∙ c.unwrap_or.ensures ∙ nodes_left c.args.answer c.args.nodes }
