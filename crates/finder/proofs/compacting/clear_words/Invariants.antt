-- `clear_words` meets its contract: the places passed are 0. From the laws on `set`.
use Prim.Native.Nat.{◌≤◌}
use Rattle.graph.specs.Literals.{literals}
use Rattle.finder.specs.Compacting.{Cleared}
use Rattle.finder.proofs.Rooms.{SameRoom}
use Rattle.finder.proofs.compacting.clear_words.Given as goal

abbrev pub invariant-loop-j : goal.invariant-loop-j
invariant-loop-j l = (l.a ≤ l.j) × (l.j ≤ l.b) × SameRoom l.initial.table l.initial.bits l.table l.bits × Cleared l.a l.j (literals l.initial.table l.initial.bits) (literals l.table l.bits)
