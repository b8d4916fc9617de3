-- `step_at` meets its contract: no node passed has reached the index yet. From the laws on steps.
use native.Mathlib.Omega.{arith}
use Rattle.graph.proofs.Words.{readable}
use Rattle.aiger_export.proofs.Placed.{step_early, step_node, step_none, counted_zero, counted_most, counted_more, counted_next, counted_all}
use Rattle.aiger_export.proofs.steps.step_at.Goals as goal

pub returns-then-half-circuit : goal.returns-then-half-circuit
returns-then-half-circuit c = step_early _ _ c.if-half-circuit.true

pub loop-v-init : goal.loop-v-init
loop-v-init c = (counted_zero _ _, c.if-half-circuit.false)

pub gates_at-last-requires : goal.gates_at-last-requires
gates_at-last-requires c = readable _ c.args.circuit.now.admitted c.loop-v.v (omega arith)

pub overflow_add-last : goal.overflow_add-last
overflow_add-last c = omega (arith, c.gates_at-last.ensures.1, counted_most _ _ _ _ c.loop-v.invariant.0, c.args.circuit.now.admitted)

pub returns-then-half-last : goal.returns-then-half-last
returns-then-half-last c =
    let l = c.loop-v in
    let m = counted_more _ _ _ _ l.invariant.0 c.loop-v-test.true _ (c.gates_at-last.ensures.0 _ _ _ _) in
    step_node _ _ l.v (omega arith) (omega arith)

pub loop-v-preserved : goal.loop-v-preserved
loop-v-preserved c =
    (counted_next _ _ _ _ c.loop-v.invariant.0 c.loop-v-test.true _ (c.gates_at-last.ensures.0 _ _ _ _), c.if-half-last.false)

pub returns : goal.returns
returns c = let m = counted_all _ _ _ _ c.loop-v.invariant.0 c.loop-v-test.false in step_none _ _ (omega arith)
