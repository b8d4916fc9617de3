-- `high_node` meets its contract. From its callees'.
use Rattle.std.proofs.Common.{arith}
use Rattle.graph.specs.Inner.{over_at, third_over, high_node}
use Rattle.graph.proofs.faults.high_node.Goals as goal

pub overflow_add-result : goal.overflow_add-result
overflow_add-result c = omega (arith, c.above-y.ensures.1, c.above-x.ensures.1)

pub overflow_add-result-2 : goal.overflow_add-result-2
overflow_add-result-2 c = omega (arith, c.third_above-z.ensures.1, c.above-y.ensures.1, c.above-x.ensures.1)

pub returns : goal.returns
unfolding over_at third_over high_node
returns c =
    let p = rw c.raw_at.ensures at c.above-x.ensures.0 in
    let q = rw c.raw_at-2.ensures at c.above-y.ensures.0 in
    let r = rw c.raw_at-3.ensures at c.third_above-z.ensures.0 in
    (rw (p, q, r), omega (arith, c.above-x.ensures.1, c.above-y.ensures.1, c.third_above-z.ensures.1))
