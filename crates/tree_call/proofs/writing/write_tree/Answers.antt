-- `write_tree` meets its contract: the moves of the nodes passed are written. From the laws of the pass.
use mathlib.Core.Path.{refl, ◌∙◌}
use Prim.Native.Nat.{◌<◌}
use native.Mathlib.Omega.{arith}
use Rattle.graph.specs.Graph.{Graph}
use Rattle.graph.specs.Literals.{graph_in}
use Rattle.trees.proofs.Falling.{bound_of}
use Rattle.tree_call.proofs.Written.{WrittenTo, written_none, written_all, next_asks, next_written}
use Rattle.tree_call.proofs.writing.write_tree.Goals as goal
use Rattle.tree_call.proofs.writing.write_tree.Goals.{After-read-v, In-loop-v, Start}

abbrev graph : Start → Graph
graph s = let a = s.args in graph_in a.inputs a.nodes a.outputs a.node_table.now a.node_bits.now a.output_table.now a.output_bits.now

-- what a turn makes

loop-both : (c : After-read-v) → WrittenTo (graph (goal.at.After-read-v c).Start) c.args.scratch.now c.args.root c.read-v.result (graph_in c.args.inputs c.args.nodes c.args.outputs c.args.node_table.now c.write_at.new.node_bits c.args.output_table.now c.write_at.new.output_bits) × (bound_of c.read-v.result < bound_of c.loop-v.v)
loop-both c =
    next_written (graph (goal.at.After-read-v c).Start) c.args.scratch.now c.requires.0 c.args.root c.requires.1 c.requires.2 c.args.locks.now c.requires.3 c.loop-v.v _ c.loop-v.invariant.0 c.loop-v-test.true _ _ _ c.read-m.ensures c.read-v.ensures c.write_at.ensures

pub loop-v-init : goal.loop-v-init
loop-v-init c =
    (written_none (graph (goal.at.loop-v-init c).Start) c.args.scratch.now c.requires.0 c.args.root c.requires.1 c.requires.2 _ refl, refl, refl)

pub write_at-requires : goal.write_at-requires
write_at-requires c =
    next_asks (graph (goal.at.write_at-requires c).Start) c.args.scratch.now c.requires.0 c.args.root c.requires.1 c.requires.2 c.args.locks.now c.requires.3 c.loop-v.v _ c.loop-v.invariant.0 c.loop-v-test.true _ _ c.read-p.ensures c.read-m.ensures

pub loop-v-smaller : goal.loop-v-smaller
loop-v-smaller c = (loop-both (goal.at.loop-v-smaller c).After-read-v).1

pub loop-v-preserved : goal.loop-v-preserved
loop-v-preserved c =
    ((loop-both (goal.at.loop-v-preserved c).After-read-v).0, c.write_at.auto.node_bits ∙ c.loop-v.invariant.1, c.write_at.auto.output_bits ∙ c.loop-v.invariant.2)

pub returns : goal.returns
returns c =
    written_all (graph (goal.at.returns c).Start) c.args.scratch.now c.requires.0 c.args.root c.requires.1 c.requires.2 c.args.locks.now c.requires.3 c.loop-v.v _ c.loop-v.invariant.0 (omega arith)
