-- `nodes_size` meets its contract: the lengths of the nodes' lines are added up, and the ANDs counted. From the laws on lengths
-- in a row and on counting.
use Rattle.graph.proofs.Words.{readable}
use Rattle.aiger_export.proofs.Placed.{counted_zero, counted_most, counted_next}
use Rattle.aiger_export.proofs.Summed.{summed_start, summed_more, summed_end}
use native.Mathlib.Omega.{arith}
use Rattle.aiger_export.proofs.sizes.nodes_size.Goals as goal

pub loop-v-init : goal.loop-v-init
loop-v-init c = (summed_start _ _, counted_zero _ _)

pub node_size-size-requires : goal.node_size-size-requires
node_size-size-requires c = (c.requires, omega arith, c.loop-v.invariant.1.sum)

pub gates_at-b-requires : goal.gates_at-b-requires
gates_at-b-requires c = readable _ c.args.circuit.now.admitted c.loop-v.v (omega arith)

pub overflow_add-b-in-loop-v : goal.overflow_add-b-in-loop-v
overflow_add-b-in-loop-v c = omega (arith, c.gates_at-b.ensures.1, counted_most _ _ _ _ c.loop-v.invariant.1, c.args.circuit.now.admitted)

pub loop-v-preserved : goal.loop-v-preserved
loop-v-preserved c =
    let l = c.loop-v in
    (summed_more _ _ _ _ l.invariant.0 c.loop-v-test.true _ c.node_size-size.ensures.0 c.node_size-size.ensures.1, counted_next _ _ _ _ l.invariant.1 (omega arith) _ (c.gates_at-b.ensures.0 _ _ _ _))

pub returns : goal.returns
returns c = summed_end _ _ _ _ c.loop-v.invariant.0 (omega arith)
