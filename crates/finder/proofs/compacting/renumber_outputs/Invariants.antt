-- `renumber_outputs` meets its contract: the outputs passed have their new indices. From the laws on moved words.
use Prim.Native.Nat.{◌≤◌}
use Rattle.graph.specs.Literals.{literals}
use Rattle.finder.specs.Compacting.{OutputsMoved}
use Rattle.finder.proofs.Rooms.{SameRoom}
use Rattle.finder.proofs.compacting.renumber_outputs.Given as goal

abbrev pub invariant-loop-j : goal.invariant-loop-j
invariant-loop-j l =
    (l.j ≤ l.outputs) × SameRoom l.initial.output_table l.initial.output_bits l.output_table l.output_bits × OutputsMoved l.inputs l.j l.scratch (literals l.initial.output_table l.initial.output_bits) (literals l.output_table l.output_bits)
