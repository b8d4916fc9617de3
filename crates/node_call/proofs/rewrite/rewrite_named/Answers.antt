-- `rewrite_named` meets its contract. From the laws on faults and outcomes.
use native.Mathlib.Omega.{arith}
use Prim.Native.Nat.{◌<◌}
use Rattle.graph.specs.Graph.{Graph, graph_of}
use Rattle.moves.specs.Call.{named_by}
use Rattle.node_call.proofs.Refusing.{pair_accepted, named_below, named_low, within_three}
use Rattle.node_call.proofs.Outcomes.{no_node, a_node}
use Rattle.graph.specs.Literals.{literals}
use Rattle.node_call.proofs.rewrite.rewrite_named.Goals as goal

pub named_by-named-requires : goal.named_by-named-requires
unfolding named_by
named_by-named-requires c =
    let a = c.args in
    let g : Graph = graph_of a.inputs a.nodes a.outputs (literals a.node_table.now a.node_bits.now) (literals a.output_table.now a.output_bits.now) in
    let w = pair_accepted g a.locks.now a.node a.word c.requires in
    let d = w.at_node in
    omega (arith, d.after, d.before, w.from_one, within_three g a.locks.now a.node a.word w, named_low g a.locks.now a.node a.word w, d.admitted.few_inputs, d.admitted.few_nodes, d.admitted.held_nodes)

pub returns-then-named-inputs : goal.returns-then-named-inputs
returns-then-named-inputs c =
    let a = c.args in
    let g : Graph = graph_of a.inputs a.nodes a.outputs (literals a.node_table.now a.node_bits.now) (literals a.output_table.now a.output_bits.now) in
    no_node g a.locks.now a.node a.word _ (c.named_by-named.ensures a.nodes a.outputs (literals a.output_table.now a.output_bits.now)) c.if-named-inputs.true

pub overflow_add-p : goal.overflow_add-p
overflow_add-p c =
    let a = c.args in
    let g : Graph = graph_of a.inputs a.nodes a.outputs (literals a.node_table.now a.node_bits.now) (literals a.output_table.now a.output_bits.now) in
    let w = pair_accepted g a.locks.now a.node a.word c.requires in
    let d = w.at_node in
    omega (arith, d.admitted.few_inputs)

pub overflow_add-v : goal.overflow_add-v
overflow_add-v c =
    let a = c.args in
    let g : Graph = graph_of a.inputs a.nodes a.outputs (literals a.node_table.now a.node_bits.now) (literals a.output_table.now a.output_bits.now) in
    let w = pair_accepted g a.locks.now a.node a.word c.requires in
    let d = w.at_node in
    omega (arith, d.admitted.few_inputs)

pub overflow_sub-v : goal.overflow_sub-v
overflow_sub-v c =
    let a = c.args in
    let g : Graph = graph_of a.inputs a.nodes a.outputs (literals a.node_table.now a.node_bits.now) (literals a.output_table.now a.output_bits.now) in
    let w = pair_accepted g a.locks.now a.node a.word c.requires in
    let d = w.at_node in
    omega (arith, d.after)

pub rewrite_pair-requires : goal.rewrite_pair-requires
rewrite_pair-requires c =
    let a = c.args in
    let g : Graph = graph_of a.inputs a.nodes a.outputs (literals a.node_table.now a.node_bits.now) (literals a.output_table.now a.output_bits.now) in
    let w = pair_accepted g a.locks.now a.node a.word c.requires in
    let d = w.at_node in
    let e = c.named_by-named.ensures a.nodes a.outputs (literals a.output_table.now a.output_bits.now) in
    let b : named_by g a.node a.word < a.node = named_below g a.locks.now a.node a.word w in
    (d.admitted, omega (arith, e, b, c.if-named-inputs.false), omega (arith, d.after, d.before), d.enough)

pub returns : goal.returns
returns c =
    let a = c.args in
    let g : Graph = graph_of a.inputs a.nodes a.outputs (literals a.node_table.now a.node_bits.now) (literals a.output_table.now a.output_bits.now) in
    let w = pair_accepted g a.locks.now a.node a.word c.requires in
    let d = w.at_node in
    a_node g a.locks.now a.node a.word _ (c.named_by-named.ensures a.nodes a.outputs (literals a.output_table.now a.output_bits.now)) w c.if-named-inputs.false _ c.rewrite_pair.ensures
