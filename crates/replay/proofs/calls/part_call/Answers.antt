-- `part_call` tells what many moves answer at a part of the lent nodes and moves.
use Rattle.moves.specs.Call.{gain_answer}
use Rattle.replay.proofs.One.{told_many}
use Rattle.replay.proofs.calls.part_call.Goals as goal

pub returns : goal.returns
returns c = told_many _ _ _ _ _ _ _ _ _ (gain_answer c.many.result) _ c.many.ensures c.part.ensures c.part-2.ensures c.gain_answer.ensures
