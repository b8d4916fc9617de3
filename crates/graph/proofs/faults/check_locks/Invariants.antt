-- `check_locks` meets its contract: what the locks passed come to is by the greatest of their bytes. From the step of that law.
use Rattle.std.proofs.Common.{◌≡◌, ◌≤◌}
use Rattle.graph.specs.Finite.{if_less}
use Rattle.graph.specs.Admission.{locks_number}
use Rattle.graph.proofs.faults.check_locks.Given as goal

abbrev pub invariant-loop-lock : goal.invariant-loop-lock
invariant-loop-lock l = (l.lock-index ≤ l.nodes) × (locks_number l.lock-index l.locks ≡ if_less 1 l.most 13 0)
