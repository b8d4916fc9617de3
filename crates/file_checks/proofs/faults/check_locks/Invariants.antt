-- `check_locks` walks as `lock_fields_number` does, over as many locks as stand at the front. From the steps of the walk.
use mathlib.Core.Path.{◌≡◌}
use lib.ListN.{length}
use Rattle.file_checks.specs.File.{lock_count, lock_fields_number}
use Rattle.file_checks.proofs.faults.check_locks.Given as goal

abbrev pub invariant-loop-s : goal.invariant-loop-s
invariant-loop-s l = lock_fields_number (lock_count l.s) l.s l.low l.top ≡ lock_fields_number (lock_count l.rest) l.rest l.start l.top

abbrev pub decreases-loop-s : goal.decreases-loop-s
decreases-loop-s l = length l.s
