-- `fill::fill_gates` meets its contract. The invariant: so many lines are passed, and so many words put. From the laws of the fill pass.
use mathlib.Core.Path.{◌≡◌, refl, ◌∙◌}
use Prim.Native.Nat.{◌+◌, ◌*◌}
use native.Mathlib.Omega.{arith}
use Rattle.file_checks.proofs.Checked.{rest}
use Rattle.graph.specs.Literals.{literals}
use Rattle.graph.proofs.Filled.{filled_start}
use Rattle.graph.proofs.Literals.{held_literals, held_le}
use Rattle.aiger_import.proofs.Filled.{past, gate_next}
use Rattle.aiger_import.proofs.fill.fill_gates.Goals as goal

pub loop-k-init : goal.loop-k-init
loop-k-init c = (refl, omega arith, filled_start _ _ _, refl, refl)

pub overflow_mul-k : goal.overflow_mul-k
overflow_mul-k c = omega (arith, c.loop-k-test.true)

pub fill_gate-put-requires : goal.fill_gate-put-requires
fill_gate-put-requires c =
    let l = c.loop-k in (
      rw l.invariant.0 (c.requires.0 l.k c.loop-k-test.true),
      omega (arith, c.loop-k-test.true, c.requires.2, l.invariant.3, l.invariant.4, held_literals l.node_table l.node_bits, held_literals c.args.node_table.now c.args.node_bits.now),
    )

pub slice_bounds-s-count : goal.slice_bounds-s-count
slice_bounds-s-count c = omega (arith, c.fill_gate-put.ensures.0.0)

pub slice_bounds-s-start : goal.slice_bounds-s-start
slice_bounds-s-start c = omega (arith, c.fill_gate-put.ensures.0.0)

pub loop-k-preserved : goal.loop-k-preserved
loop-k-preserved c =
    let a = c.args in
    let s = c.loop-k.s.now in
    let n = c.fill_gate-put.result.size in
    let e = c.fill_gate-put.ensures in
    let q : 3 * c.loop-k.k + 3 ≡ 3 * (c.loop-k.k + 1) = omega arith in
    let o = literals a.node_table.now a.node_bits.now in (
      past a.rest.now s _ (3 * c.loop-k.k) 3 n (3 * (c.loop-k.k + 1)) c.loop-k.invariant.0 (rest n s) e.0.1 (omega arith),
      omega arith,
      rw q at e.1 ∙ gate_next a.rest.now o _ s c.loop-k.k (omega (arith, c.loop-k-test.true, c.requires.2, held_le o)) c.loop-k.invariant.0 c.loop-k.invariant.2,
      c.fill_gate-put.auto.node_table ∙ c.loop-k.invariant.3,
      c.fill_gate-put.auto.node_bits ∙ c.loop-k.invariant.4,
    )

pub overflow_mul-end : goal.overflow_mul-end
overflow_mul-end c = omega (arith, c.requires.1)

pub put_last-requires : goal.put_last-requires
put_last-requires c = omega (arith, c.loop-k.invariant.4, c.requires.2, held_literals c.args.node_table.now c.args.node_bits.now)

pub shape_of-node_table : goal.shape_of-node_table
shape_of-node_table c = c.loop-k.invariant.3

pub shape_of-node_bits : goal.shape_of-node_bits
shape_of-node_bits c = c.put_last.auto.bits ∙ c.loop-k.invariant.4

pub returns : goal.returns
returns c =
    let i = c.loop-k.invariant in
    let e : c.loop-k.k ≡ c.args.nodes = omega arith in
    rw c.put_last.ensures (rw e at i.2)
