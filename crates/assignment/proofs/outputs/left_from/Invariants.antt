-- `outputs::left_from` meets its contract: the places left by the outputs passed. From the laws on blocks.
use mathlib.Core.Path.{◌≡◌}
use Prim.Native.Nat.{ℕ, ◌+◌, ◌≤◌, ◌<◌, min}
use lib.ListN.{length}
use Rattle.graph.specs.Finite.{first_of}
use Rattle.graph.specs.Literals.{bit}
use Rattle.evaluation.specs.Inner.{by_index}
use Rattle.assignment.specs.Inner.{clean, lacks}
use Rattle.assignment.proofs.outputs.left_from.Given as goal
use Rattle.graph.specs.Tables.{lent_table}

abbrev pub invariant-loop-o : goal.invariant-loop-o
invariant-loop-o l =
    (l.o ≤ l.question.lent.outputs)
    × ((j : ℕ) → j < 64 → bit j l.rest ≡ min (bit j l.left) (clean (first_of l.o (lacks (by_index l.words.inputs l.words.of_inputs.now l.words.of_nodes.now) (lent_table l.question.lent.output_table) l.question.wanted.now l.low (l.words.inputs + 1 + length l.words.of_nodes.now) j))))
