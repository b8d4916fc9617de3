-- `front::shift` meets its contract. The invariant: the words passed are those from `first` on, and later ones are as they were. From the laws
-- of words moved.
use Prim.Native.Nat.{◌≤◌}
use Rattle.evaluation.proofs.Shift.{Shifted}
use Rattle.evaluation.proofs.front.shift.Given as goal

abbrev pub invariant-loop-k : goal.invariant-loop-k
invariant-loop-k l = (l.k ≤ l.many) × Shifted l.first l.initial.scratch l.scratch l.k
