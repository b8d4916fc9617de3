-- `check_words` walks as `words_number` does: the walk over what is left comes to the whole.
use mathlib.Core.Path.{◌≡◌}
use lib.ListN.{length}
use Rattle.replay.specs.Replay.{words_number}
use Rattle.replay.proofs.faults.check_words.Given as goal

abbrev pub invariant-loop-s : goal.invariant-loop-s
invariant-loop-s l = words_number l.length l.s ≡ words_number l.length l.calls

abbrev pub decreases-loop-s : goal.decreases-loop-s
decreases-loop-s l = length l.s
