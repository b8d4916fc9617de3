-- `complemented` meets its contract. From the law that C is the number of ones.
use Rattle.std.proofs.Common.{arith}
use Rattle.graph.specs.Graph.{Graph}
use Rattle.graph.proofs.Adds.{C_le}
use Rattle.graph.proofs.Counted.{bits_counted}
use Rattle.graph.proofs.Literals.{held_literals}
use Rattle.graph.proofs.edges.complemented.Goals as goal
use Rattle.graph.specs.Tables.{lent_graph}

pub words_for-requires : goal.words_for-requires
words_for-requires c = omega (arith, c.requires.few_nodes)

pub ones_in-first-requires : goal.ones_in-first-requires
ones_in-first-requires c =
    let a = c.args in
    let d = c.requires in
    (omega (arith, c.words_for.ensures, d.held_nodes, held_literals a.lent.now.node_table.indices.now a.lent.now.node_table.bits.now), omega (arith, c.words_for.ensures, d.few_nodes))

pub words_for-requires-2 : goal.words_for-requires-2
words_for-requires-2 c = omega (arith, c.requires.few_outputs)

pub ones_in-second-requires : goal.ones_in-second-requires
ones_in-second-requires c =
    let a = c.args in
    let d = c.requires in
    (omega (arith, c.words_for-2.ensures, d.held_outputs, held_literals a.lent.now.output_table.indices.now a.lent.now.output_table.bits.now), omega (arith, c.words_for-2.ensures, d.few_outputs))

pub overflow_add-result : goal.overflow_add-result
overflow_add-result c =
    let d = c.requires in
    omega (arith, c.ones_in-second.ensures.2, c.words_for-2.ensures, c.ones_in-first.ensures.2, c.words_for.ensures, d.few_nodes, d.few_outputs)

pub returns : goal.returns
returns c =
    let a = c.args in
    let d = c.requires in
    let g : Graph = lent_graph a.lent.now in
    let e = bits_counted a.lent.now.inputs a.lent.now.nodes a.lent.now.outputs a.lent.now.node_table.indices.now a.lent.now.node_table.bits.now a.lent.now.output_table.indices.now a.lent.now.output_table.bits.now d in
    let x = rw c.words_for.ensures at c.ones_in-first.ensures.1 in
    let y = rw c.words_for-2.ensures at c.ones_in-second.ensures.1 in
    (omega (arith, e, x, y), omega (arith, e, x, y, C_le g, d.few_nodes, d.few_outputs))
