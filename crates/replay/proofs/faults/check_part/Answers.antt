-- `check_part` meets its contract. From the laws on tests.
use mathlib.Core.Path.{refl}
use native.Mathlib.Omega.{arith}
use Rattle.graph.proofs.Tests.{less, no_less}
use Rattle.replay.specs.Replay.{part_number}
use Rattle.replay.proofs.faults.check_part.Goals as goal

pub returns-then-length-end : goal.returns-then-length-end
unfolding part_number
returns-then-length-end c = less _ _ _ _ c.if-length-end.true refl

pub returns : goal.returns
unfolding part_number
returns c = no_less _ _ _ _ (omega arith) refl
