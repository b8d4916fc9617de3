-- `fill::fill_gates` meets its contract. The invariant: so many lines are passed, and so many words put. From the laws of the fill pass.
use mathlib.Core.Path.{◌≡◌}
use Prim.Native.Nat.{◌*◌, ◌≤◌}
use lib.ListN.{length}
use Rattle.graph.specs.Finite.{tab}
use Rattle.graph.specs.Inner.{begun}
use Rattle.graph.specs.Literals.{literals, filled}
use Rattle.aiger.specs.Lines.{skip}
use Rattle.aiger.specs.Import.{gate_word}
use Rattle.aiger_import.proofs.fill.fill_gates.Given as goal

abbrev pub invariant-loop-k : goal.invariant-loop-k
invariant-loop-k l =
    (l.s ≡ skip (3 * l.k) l.rest) × (l.k ≤ l.nodes) × (literals l.node_table (begun (3 * l.k) l.got l.node_bits) ≡ filled (tab (3 * l.k) (gate_word l.rest 0)) (literals l.initial.node_table l.initial.node_bits)) × (length l.node_table ≡ length l.initial.node_table) × (length l.node_bits ≡ length l.initial.node_bits)
