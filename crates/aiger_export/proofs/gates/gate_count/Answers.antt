-- `gate_count` meets its contract: the ANDs of the nodes passed are counted. From the laws on counting.
use mathlib.Core.Path.{◌∙◌}
use native.Mathlib.Nat.{zero-add}
use native.Mathlib.Omega.{arith}
use Rattle.graph.proofs.Words.{readable}
use Rattle.aiger_export.proofs.Placed.{counted_zero, counted_most, counted_next, counted_all}
use Rattle.aiger_export.proofs.gates.gate_count.Goals as goal

pub loop-v-init : goal.loop-v-init
loop-v-init c = counted_zero _ _

pub gates_at-count-requires : goal.gates_at-count-requires
gates_at-count-requires c = readable _ c.args.circuit.now.admitted c.loop-v.v (omega arith)

pub overflow_add-count : goal.overflow_add-count
overflow_add-count c = omega (arith, c.gates_at-count.ensures.1, counted_most _ _ _ _ c.loop-v.invariant, c.args.circuit.now.admitted.few_nodes)

pub loop-v-preserved : goal.loop-v-preserved
loop-v-preserved c =
    counted_next _ _ _ _ c.loop-v.invariant c.loop-v-test.true _ (c.gates_at-count.ensures.0 _ _ _ _)

pub returns : goal.returns
returns c = counted_all _ _ _ _ c.loop-v.invariant c.loop-v-test.false ∙ zero-add _
