-- `rest_faults` meets its contract: the sum over the nodes passed. From the law of one node more.
use Rattle.std.proofs.Common.{◌≡◌, ℕ, ◌+◌, ◌*◌, ◌/◌, refl, ap, ◌∙◌, arith}
use Rattle.graph.specs.Finite.{sum}
use Rattle.graph.specs.Inner.{fault_at}
use Rattle.graph.proofs.Checked.{node_next}
use Rattle.graph.proofs.faults.rest_faults.Goals as goal

pub loop-v-init : goal.loop-v-init
loop-v-init c =
    let a = c.args in
    let e : 12 * (a.nodes / 4) ≡ 3 * (4 * (a.nodes / 4)) = omega arith in
    (omega arith, omega arith, rw e (omega arith))

pub node_faults-c-requires : goal.node_faults-c-requires
node_faults-c-requires c = omega (arith, c.bit_at.ensures.1)

pub overflow_add-c : goal.overflow_add-c
overflow_add-c c = omega (arith, c.node_faults-c.ensures.1)

pub loop-v-preserved : goal.loop-v-preserved
loop-v-preserved c =
    let r = c.node_faults-c in
    let b = c.bit_at in
    let a = c.args in
    let q = rw b.ensures.0 at r.ensures.0 in
    let n = node_next a.inputs a.node_table.now.indices.now a.node_table.now.bits.now c.loop-v.v (3 * c.loop-v.v) (a.inputs + c.loop-v.v + 1) refl (omega arith) r.result q in
    (omega arith, omega (arith, r.ensures.1), omega (arith, n, c.loop-v.invariant.2))

pub returns : goal.returns
returns c =
    let a = c.args in
    let e : c.loop-v.v ≡ a.nodes = omega arith in
    (c.loop-v.invariant.2 ∙ ap (λ (n : ℕ). sum (3 * n) (fault_at a.inputs a.node_table.now.indices.now a.node_table.now.bits.now)) e, omega arith)
