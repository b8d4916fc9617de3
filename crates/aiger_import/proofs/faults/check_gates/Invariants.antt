-- `faults::check_gates` meets its contract. The invariant: the lines passed have no fault. From the laws on lines tested in a row.
use mathlib.Core.List.{List}
use Prim.Native.Nat.{ℕ, ◌+◌, ◌*◌, ◌≤◌}
use Rattle.aiger.specs.Lines.{skip}
use Rattle.aiger.specs.Import.{gate_line_number}
use Rattle.aiger_import.proofs.Tested.{Checking}
use Rattle.aiger_import.proofs.faults.check_gates.Given as goal

abbrev pub at : List ℕ → ℕ → ℕ → ℕ
at s v k = gate_line_number (skip (3 * k) s) (v + k)

abbrev pub invariant-loop-k : goal.invariant-loop-k
invariant-loop-k l = Checking (at l.rest l.start) l.rest l.s l.k (3 * l.k) × (l.k ≤ l.nodes)
