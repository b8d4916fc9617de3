-- `three_call` tells what the majority call answers at three of the lent nodes.
use Rattle.hidden.specs.Call.{majority_answer}
use Rattle.replay.proofs.One.{three_entries, told_majority}
use Rattle.replay.proofs.calls.three_call.Goals as goal

pub returns : goal.returns
returns c =
    let a = c.args in
    told_majority _ _ _ _ _ a.node a.start _ (majority_answer c.majority_call.result) _
    (three_entries a.start a.list.now _ _ _ c.entry_at-one.ensures c.entry_at-two.ensures c.entry_at-three.ensures)
    c.majority_call.ensures.outcome c.majority_answer.ensures
