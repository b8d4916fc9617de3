-- `write_nodes` meets its contract: the bits of the nodes passed are put. From the contract of one node.
use mathlib.Core.Path.{◌≡◌, refl, ◌∙◌}
use Prim.Native.Nat.{◌+◌, ◌*◌}
use native.Mathlib.Omega.{arith}
use Rattle.graph.proofs.BitsPut.{bits_none}
use Rattle.graph.proofs.Gathered.{begun_none}
use Rattle.state.specs.State.{bit_now}
use Rattle.state.proofs.writing.write_nodes.Goals as goal

pub loop-v-init : goal.loop-v-init
loop-v-init c =
    let a = c.args in
    (refl, omega arith, refl, rw (begun_none a.bits.now 0 (3 * 0) refl) (bits_none (bit_now a.inputs a.nodes a.scratch.now a.table.now) a.bits.now))

pub write_node-got-requires : goal.write_node-got-requires
write_node-got-requires c = let i = c.loop-v.invariant in (c.requires.0, omega arith, omega (arith, c.requires.1), omega (arith, c.requires.2, i.2))

pub loop-v-preserved : goal.loop-v-preserved
loop-v-preserved c =
    let w = c.write_node-got in
    let a = c.args in
    let e : 3 * c.loop-v.v + 3 ≡ 3 * (c.loop-v.v + 1) = omega arith in
    (c.loop-v.invariant.0, omega arith, c.bits-1.given ∙ c.loop-v.invariant.2, rw e at (w.ensures a.bits.now c.loop-v.invariant.3))

pub overflow_mul-end : goal.overflow_mul-end
overflow_mul-end c = omega (arith, c.requires.0.few_nodes)

pub put_last-requires : goal.put_last-requires
put_last-requires c = let i = c.loop-v.invariant in omega (arith, i.0, i.2, c.requires.2)

pub shape_of-bits : goal.shape_of-bits
shape_of-bits c = omega (arith, c.bits-2-1.given, c.loop-v.invariant.2)

pub returns : goal.returns
returns c =
    let p = c.put_last in
    let a = c.args in
    let e : c.loop-v.v ≡ a.nodes = omega arith in
    rw p.ensures (rw e at c.loop-v.invariant.3)
