-- `fill::after_ones` meets its contract. The invariant: so many lines are passed. From the laws of the fill pass.
use mathlib.Core.Path.{◌≡◌}
use Prim.Native.Nat.{◌≤◌}
use Rattle.aiger.specs.Lines.{skip}
use Rattle.aiger_import.proofs.fill.after_ones.Given as goal

abbrev pub invariant-loop-k : goal.invariant-loop-k
invariant-loop-k l = (l.s ≡ skip l.k l.rest) × (l.k ≤ l.lines)
