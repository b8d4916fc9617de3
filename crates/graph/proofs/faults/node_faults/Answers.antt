-- `node_faults` meets its contract. From its callees'.
use Rattle.std.proofs.Common.{arith}
use Rattle.graph.proofs.faults.node_faults.Goals as goal

pub overflow_add-result : goal.overflow_add-result
overflow_add-result c = omega (arith, c.mark_bit.ensures.1, c.high_node-high.ensures.1)

pub returns : goal.returns
returns c =
    let h = c.high_node-high in
    let q = rw c.raw_at.ensures at c.mark_bit.ensures.0 in
    (rw (h.ensures.0, q), omega (arith, h.ensures.1, c.mark_bit.ensures.1))
