-- `put_settling` meets its contract: the text of a settled graph, or a refusal's line. From the laws on outcomes.
use Rattle.std.proofs.Common.{arith}
use Rattle.graph.specs.Graph.{Graph, graph_of}
use Rattle.graph.specs.Literals.{literals}
use Rattle.graph.proofs.Literals.{held_literals}
use Rattle.report.proofs.Outcomes.{with_locks, settled_admitted, settled_printed, refused_printed}
use Rattle.report.proofs.whole.put_settling.Goals as goal

pub put_settled-requires : goal.put_settled-requires
put_settled-requires c =
    let a = c.args in
    let e = c.settle in
    let g : Graph = graph_of a.inputs a.nodes a.outputs (literals a.node_table.now a.node_bits.now) (literals a.output_table.now a.output_bits.now) in
    let m = settled_admitted g _ _ _ _ _ _ (with_locks _ _ _ _ c.in-Ok.ensures.call) in
    let p = held_literals a.node_table.now a.node_bits.now in
    let q = held_literals a.output_table.now a.output_bits.now in
    let x = held_literals a.node_table.now e.new.node_bits in
    let y = held_literals a.output_table.now e.new.output_bits in
    record { admitted = m; output_bits_in_bounds = omega (arith, c.requires, p, q, x, y, e.auto.node_bits, e.auto.output_bits) }

pub returns-in-Ok : goal.returns-in-Ok
returns-in-Ok c = settled_printed _ _ _ _ _ _ _ _ _ _ _ (with_locks _ _ _ _ c.in-Ok.ensures.call) c.put_settled.ensures

pub returns-in-Err : goal.returns-in-Err
returns-in-Err c = refused_printed _ _ _ _ _ _ c.in-Err.refusal (with_locks _ _ _ _ c.in-Err.ensures.call) c.put_refused.ensures
