-- `put_locks` stores the locks' fields one after another. From the laws on fields in a row.
use Prim.Native.Nat.{◌-◌}
use Rattle.tagged_file.proofs.Emitted.{Left}
use Rattle.tagged_file.specs.Write.{lock_field_at}
use Rattle.tagged_file.proofs.emit.put_locks.Given as goal

abbrev pub invariant-loop-v : goal.invariant-loop-v
invariant-loop-v l = Left (lock_field_at l.index l.locks) l.nodes l.start l.initial.buffer l.buffer l.at l.v (l.nodes - l.v)
