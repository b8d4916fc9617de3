-- `results::fill_results` meets its contract. The invariant: results swept up to the output met. From the laws on sweeps.
use mathlib.Core.Path.{◌≡◌}
use Prim.Native.Nat.{◌≤◌}
use lib.ListN.{length}
use Rattle.graph.proofs.Sweep.{swept}
use Rattle.evaluation.specs.Inner.{by_index, output_word_from}
use Rattle.evaluation.proofs.results.fill_results.Given as goal
use Rattle.graph.specs.Tables.{lent_table}

abbrev pub invariant-loop-o : goal.invariant-loop-o
invariant-loop-o l =
    (l.o ≤ l.lent.outputs) × (l.o-end ≡ l.lent.outputs) × (length l.results ≡ length l.initial.results)
    × (l.results ≡ swept (output_word_from (by_index l.words.inputs l.words.of_inputs.now l.words.of_nodes.now) (lent_table l.lent.output_table)) l.initial.results l.o)
