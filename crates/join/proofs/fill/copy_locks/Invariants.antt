-- `fill::copy_locks` meets its contract. The invariant: the bytes so far are copied. From the laws on a copy.
use mathlib.Core.Path.{◌≡◌}
use Prim.Native.Nat.{◌≤◌}
use lib.Seq.{paste}
use Rattle.join.proofs.fill.copy_locks.Given as goal

abbrev pub invariant-loop-v : goal.invariant-loop-v
invariant-loop-v l = (l.v ≤ l.count) × (l.joined_locks ≡ paste l.initial.joined_locks l.start l.locks l.v)
