-- `memory_call` tells what the call on a tree for resistive memory answers.
use Rattle.moves.specs.Call.{saving_answer}
use Rattle.replay.proofs.One.{told_memory}
use Rattle.replay.proofs.calls.memory_call.Goals as goal

pub returns : goal.returns
returns c =
    told_memory _ _ _ _ _ (saving_answer c.resistive_call-answer.result) _ c.resistive_call-answer.ensures.outcome c.saving_answer.ensures
