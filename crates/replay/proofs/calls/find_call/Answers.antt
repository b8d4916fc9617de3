-- `find_call` tells what the finder answers.
use Rattle.hidden.specs.Call.{found_answer}
use Rattle.replay.proofs.One.{told_finding, by_answer}
use Rattle.replay.proofs.calls.find_call.Goals as goal

pub returns : goal.returns
returns c =
    by_answer _ _ _ _ _ _ _ _ _ (told_finding _ _ _ _ _ (found_answer c.find.result) _ c.find.ensures.outcome c.found_answer.ensures)
