-- `write_tree` meets its contract: the moves of the nodes passed are written. From the laws of the pass.
use mathlib.Core.Path.{◌≡◌}
use lib.ListN.{length}
use Rattle.graph.specs.Literals.{graph_in}
use Rattle.trees.proofs.Falling.{bound_of}
use Rattle.tree_call.proofs.Written.{WrittenTo}
use Rattle.tree_call.proofs.writing.write_tree.Given as goal

abbrev pub invariant-loop-v : goal.invariant-loop-v
invariant-loop-v l =
    WrittenTo (graph_in l.inputs l.nodes l.outputs l.node_table l.initial.node_bits l.output_table l.initial.output_bits) l.scratch l.root l.v (graph_in l.inputs l.nodes l.outputs l.node_table l.node_bits l.output_table l.output_bits)
    × (length l.node_bits ≡ length l.initial.node_bits) × (length l.output_bits ≡ length l.initial.output_bits)

abbrev pub decreases-loop-v : goal.decreases-loop-v
decreases-loop-v l = bound_of l.v
