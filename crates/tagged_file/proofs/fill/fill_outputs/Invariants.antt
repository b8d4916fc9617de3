-- `fill_outputs` puts what `single_words` says: what is still to be put, where it goes, comes to the whole. From the laws of the fill pass.
use mathlib.Core.Path.{◌≡◌}
use lib.ListN.{length}
use Rattle.graph.specs.Inner.{begun}
use Rattle.graph.specs.Literals.{literals}
use Rattle.tagged_file.proofs.Filled.{OutputsLeft}
use Rattle.tagged_file.proofs.fill.fill_outputs.Given as goal

abbrev pub invariant-loop-j : goal.invariant-loop-j
invariant-loop-j l =
    OutputsLeft l.outputs l.rest (literals l.initial.output_table l.initial.output_bits) (literals l.output_table (begun l.j l.got l.output_bits)) l.s l.j × (length l.output_table ≡ length l.initial.output_table) × (length l.output_bits ≡ length l.initial.output_bits)
