-- `faults::check_inputs` meets its contract. The invariant: the lines passed have no fault. From the laws on lines tested in a row.
use mathlib.Core.List.{List}
use Prim.Native.Nat.{ℕ, ◌≤◌}
use Rattle.aiger.specs.Lines.{skip}
use Rattle.aiger.specs.Import.{input_line_number}
use Rattle.aiger_import.proofs.Tested.{Checking}
use Rattle.aiger_import.proofs.faults.check_inputs.Given as goal

abbrev pub at : List ℕ → ℕ → ℕ
at s k = input_line_number (skip k s) k

abbrev pub invariant-loop-k : goal.invariant-loop-k
invariant-loop-k l = Checking (at l.rest) l.rest l.s l.k l.k × (l.k ≤ l.sizes.inputs)
