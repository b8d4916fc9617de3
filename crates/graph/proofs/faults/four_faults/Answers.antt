-- `four_faults` meets its contract: the four sums together count the faults of the nodes passed. From the law of four nodes more.
use Rattle.std.proofs.Common.{◌≡◌, ◌/◌, refl, arith}
use Rattle.graph.specs.Finite.{sum}
use Rattle.graph.proofs.Checked.{four_next}
use Rattle.graph.proofs.faults.four_faults.Goals as goal

pub loop-j-init : goal.loop-j-init
unfolding sum
loop-j-init c = (refl, omega arith, omega arith, omega arith, omega arith, omega arith, record { least = omega arith; most = omega arith })

pub overflow_add-first : goal.overflow_add-first
overflow_add-first c = omega (arith, c.node_faults-first.ensures.1)

pub overflow_add-second : goal.overflow_add-second
overflow_add-second c = omega (arith, c.node_faults-second.ensures.1)

pub overflow_add-third : goal.overflow_add-third
overflow_add-third c = omega (arith, c.node_faults-third.ensures.1)

pub overflow_add-fourth : goal.overflow_add-fourth
overflow_add-fourth c = omega (arith, c.node_faults-fourth.ensures.1)

pub loop-j-preserved : goal.loop-j-preserved
loop-j-preserved c =
    let d = c.node_faults-fourth in
    let r = c.node_faults-third in
    let q = c.node_faults-second in
    let p = c.node_faults-first in
    let a = c.args in (
      c.loop-j.invariant.0,
      omega arith,
      omega (arith, p.ensures.1),
      omega (arith, q.ensures.1),
      omega (arith, r.ensures.1),
      omega (arith, d.ensures.1),
      four_next a.inputs a.node_table.now.indices.now a.node_table.now.bits.now c.loop-j.j c.thirds_at-b.result c.thirds_at-b.ensures c.loop-j.first c.loop-j.second
          c.loop-j.third c.loop-j.fourth p.result q.result r.result d.result c.loop-j.invariant.6 p.ensures.0 q.ensures.0 r.ensures.0 d.ensures.0,
    )

pub returns : goal.returns
returns c =
    let a = c.args in
    let e : c.loop-j.j ≡ a.nodes / 4 = omega arith in
    (rw e at c.loop-j.invariant.6, omega arith)
