-- `fill_locks` sets what `locked_at` says: the locks that are left, set where they go, come to the whole. From the laws of the fill pass.
use lib.ListN.{length}
use Rattle.tagged_file.proofs.Filled.{LocksLeft}
use Rattle.tagged_file.proofs.fill.fill_locks.Given as goal

abbrev pub invariant-loop-s : goal.invariant-loop-s
invariant-loop-s l = LocksLeft l.start l.rest l.initial.locks l.locks l.s

abbrev pub decreases-loop-s : goal.decreases-loop-s
decreases-loop-s l = length l.s
