-- `faults::check_outputs` meets its contract. The invariant: the lines passed have no fault. From the laws on lines tested in a row.
use mathlib.Core.List.{List}
use Prim.Native.Nat.{ℕ, ◌+◌, ◌≤◌}
use Rattle.aiger.specs.Lines.{skip}
use Rattle.aiger.specs.Import.{output_line_number}
use Rattle.aiger_import.proofs.Tested.{Checking}
use Rattle.aiger_import.proofs.faults.check_outputs.Given as goal

abbrev pub at : List ℕ → ℕ → ℕ → ℕ
at s v j = output_line_number (skip j s) v

abbrev pub invariant-loop-j : goal.invariant-loop-j
invariant-loop-j l = Checking (at l.rest (l.sizes.inputs + 1 + l.sizes.nodes)) l.rest l.s l.j l.j × (l.j ≤ l.sizes.outputs)
