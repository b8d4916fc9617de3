-- `fill_nodes` puts what `node_words` says: what is still to be put, where it goes, comes to the whole. From the laws of the fill pass.
use mathlib.Core.Path.{◌≡◌}
use Prim.Native.Nat.{◌*◌}
use lib.ListN.{length}
use Rattle.graph.specs.Inner.{begun}
use Rattle.graph.specs.Literals.{literals}
use Rattle.tagged_file.proofs.Filled.{NodesLeft}
use Rattle.tagged_file.proofs.fill.fill_nodes.Given as goal

abbrev pub invariant-loop-v : goal.invariant-loop-v
invariant-loop-v l =
    NodesLeft l.nodes l.rest (literals l.initial.node_table l.initial.node_bits) (literals l.node_table (begun (3 * l.v) l.got l.node_bits)) l.s l.v × (length l.node_table ≡ length l.initial.node_table) × (length l.node_bits ≡ length l.initial.node_bits)
