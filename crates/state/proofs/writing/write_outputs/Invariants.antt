-- `write_outputs` sweeps the outputs: those passed are turned as often as is due. From the laws of a sweep.
use mathlib.Core.Path.{◌≡◌}
use mathlib.Core.List.{List}
use Prim.Native.Nat.{ℕ, ◌-◌, ◌/◌, ◌≤◌}
use lib.ListN.{length}
use Rattle.graph.specs.Literals.{literals}
use Rattle.graph.proofs.Turned.{SweptTo}
use Rattle.state.specs.State.{pending_at}
use Rattle.state.proofs.writing.write_outputs.Given as goal

abbrev pub often : ℕ → ℕ → List ℕ → ℕ → ℕ → ℕ
often i n sc j x = pending_at i n sc (x / 2)

abbrev pub invariant-loop-j : goal.invariant-loop-j
invariant-loop-j l = (l.j ≤ l.count) × (length l.bits ≡ length l.initial.bits) × SweptTo (often l.inputs l.nodes l.scratch) (literals l.table l.initial.bits) l.j (literals l.table l.bits)
