-- `fill::meet_outputs` meets its contract. The invariant: the outputs so far are put. From the laws of filled tables.
use mathlib.Core.Path.{◌≡◌}
use Prim.Native.Nat.{◌≤◌}
use lib.ListN.{length, get_or}
use Rattle.graph.specs.Finite.{tab}
use Rattle.graph.specs.Inner.{begun}
use Rattle.graph.specs.Literals.{literals, filled}
use Rattle.join.specs.Filling.{met_by}
use Rattle.join.proofs.fill.meet_outputs.Given as goal
use Rattle.graph.specs.Tables.{lent_table}

abbrev pub invariant-loop-j : goal.invariant-loop-j
invariant-loop-j l =
    (l.j ≤ l.outputs)
    × (literals l.joined_output_table (begun l.j l.got l.joined_output_bits) ≡ filled (tab l.j (λ k. met_by (lent_table l.front.outputs) l.front.base l.front.inputs (get_or (lent_table l.second_output_table) k 0))) (literals l.initial.joined_output_table l.initial.joined_output_bits))
    × (length l.joined_output_table ≡ length l.initial.joined_output_table)
    × (length l.joined_output_bits ≡ length l.initial.joined_output_bits)
