-- `fill::fill_outputs` meets its contract. The invariant: so many lines are passed, and so many words put. From the laws of the fill pass.
use mathlib.Core.Path.{◌≡◌}
use Prim.Native.Nat.{◌≤◌}
use lib.ListN.{length}
use Rattle.graph.specs.Finite.{tab}
use Rattle.graph.specs.Inner.{begun}
use Rattle.graph.specs.Literals.{literals, filled}
use Rattle.aiger.specs.Lines.{skip, number_at}
use Rattle.aiger_import.proofs.fill.fill_outputs.Given as goal

abbrev pub invariant-loop-j : goal.invariant-loop-j
invariant-loop-j l =
    (l.s ≡ skip l.j l.rest) × (l.j ≤ l.outputs) × (literals l.output_table (begun l.j l.got l.output_bits) ≡ filled (tab l.j (number_at l.rest)) (literals l.initial.output_table l.initial.output_bits)) × (length l.output_table ≡ length l.initial.output_table) × (length l.output_bits ≡ length l.initial.output_bits)
