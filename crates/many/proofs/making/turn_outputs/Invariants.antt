-- `turn_outputs` meets its contract: the outputs passed are turned as the bits of the indices that they name say. From the laws of a table
-- turned up to a place.
use mathlib.Core.Path.{◌≡◌}
use Prim.Native.Nat.{◌-◌, ◌≤◌}
use lib.ListN.{length}
use Rattle.graph.specs.Literals.{literals}
use Rattle.graph.specs.Turned.{turned_table, up_to}
use Rattle.many.specs.Making.{named}
use Rattle.many.proofs.making.turn_outputs.Given as goal

abbrev pub invariant-loop-j : goal.invariant-loop-j
invariant-loop-j l =
    (l.j ≤ l.outputs) × (length l.output_bits ≡ length l.initial.output_bits)
    × (literals l.output_table l.output_bits ≡ turned_table (literals l.output_table l.initial.output_bits) (up_to l.j (named l.seen (literals l.output_table l.initial.output_bits))))
