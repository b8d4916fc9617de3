-- `turn_readers` meets its contract: the words passed are turned. From the laws of a sweep.
use mathlib.Core.Path.{◌≡◌}
use Prim.Native.Nat.{◌≤◌}
use lib.ListN.{length}
use Rattle.graph.specs.Literals.{literals}
use Rattle.graph.proofs.Turned.{SweptTo}
use Rattle.node_call.specs.Write.{read_turns}
use Rattle.node_call.proofs.write.turn_readers.Given as goal

abbrev pub invariant-loop-j : goal.invariant-loop-j
invariant-loop-j l = (l.j ≤ l.n) × (length l.bits ≡ length l.initial.bits) × SweptTo (read_turns l.u l.t) (literals l.table l.initial.bits) l.j (literals l.table l.bits)
