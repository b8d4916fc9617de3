-- What an index reaches within some words is told by what its words name and what these reach: within one less each time.
use Prim.Native.Nat.{◌+◌, ◌*◌}
use Rattle.finder.proofs.nearness.+reach.Given as goal

abbrev pub decreases-reach : goal.decreases-reach
decreases-reach l = 2 * l.far

abbrev pub decreases-through : goal.decreases-through
decreases-through l = 2 * l.far + 1
