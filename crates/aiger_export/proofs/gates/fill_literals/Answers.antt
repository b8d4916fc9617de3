-- `fill_literals` meets its contract: scratch has the literals of the nodes passed. From the laws on counting and sweeps.
use Prim.Native.Nat.{◌+◌, ◌<◌, ◌≤◌}
use mathlib.Core.Path.{refl}
use native.Mathlib.Omega.{arith}
use lib.ListN.{length, length-set}
use Rattle.graph.proofs.Words.{readable}
use Rattle.graph.proofs.Sweep.{swept_zero}
use Rattle.aiger_export.proofs.Placed.{counted_zero, counted_most, counted_next, held_next, held_all}
use Rattle.aiger_export.proofs.gates.fill_literals.Goals as goal
use Rattle.aiger_export.proofs.gates.fill_literals.Goals.{After-gates_at-last}

few : (c : After-gates_at-last) → c.loop-v.last + c.gates_at-last.result ≤ 500000
few c = omega (arith, c.gates_at-last.ensures.1, counted_most _ _ _ _ c.loop-v.invariant.0, c.args.circuit.now.admitted.few_nodes)

pub loop-v-init : goal.loop-v-init
loop-v-init c = (counted_zero _ _, swept_zero _ _, refl)

pub gates_at-last-requires : goal.gates_at-last-requires
gates_at-last-requires c = readable _ c.args.circuit.now.admitted c.loop-v.v (omega arith)

pub overflow_add-last : goal.overflow_add-last
overflow_add-last c = omega (arith, few (goal.at.overflow_add-last c).After-gates_at-last)

pub overflow_mul-scratch : goal.overflow_mul-scratch
overflow_mul-scratch c = omega (arith, few (goal.at.overflow_mul-scratch c).After-gates_at-last)

pub loop-v-preserved : goal.loop-v-preserved
loop-v-preserved c =
    let t = c.loop-v-test.true in
    let e = c.gates_at-last.ensures.0 _ _ _ _ in
    let i = c.loop-v.invariant in
    let n : c.loop-v.v < length c.args.scratch.now = omega arith in
    (counted_next _ _ _ _ i.0 t _ e, rw i.1 (held_next _ _ _ _ i.0 _ n t refl _ e), simp length-set i.2)

pub shape_of-scratch : goal.shape_of-scratch
shape_of-scratch c = c.loop-v.invariant.2

pub returns : goal.returns
returns c = rw c.loop-v.invariant.1 (held_all _ _ _ c.requires c.loop-v-test.false)
