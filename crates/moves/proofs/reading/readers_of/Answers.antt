-- `readers_of` meets its contract. From the laws on tallies.
use Rattle.std.proofs.Common.{◌*◌, arith}
use Rattle.graph.specs.Graph.{Graph}
use Rattle.moves.proofs.Tally.{tally_le, read_is}
use Rattle.moves.proofs.reading.readers_of.Goals as goal
use Rattle.graph.specs.Tables.{lent_graph, lent_table}

pub overflow_add-result : goal.overflow_add-result
overflow_add-result c =
    let a = c.args in
    let n = tally_le (lent_table a.lent.now.node_table) a.u (3 * a.lent.now.nodes) c.count_names-a.result.count c.count_names-a.result.odd c.count_names-a.ensures in
    let o = tally_le (lent_table a.lent.now.output_table) a.u a.lent.now.outputs c.count_names-b.result.count c.count_names-b.result.odd c.count_names-b.ensures in
    omega (arith, c.requires)

pub overflow_add-result-2 : goal.overflow_add-result-2
overflow_add-result-2 c =
    let a = c.args in
    let n = tally_le (lent_table a.lent.now.node_table) a.u (3 * a.lent.now.nodes) c.count_names-a.result.count c.count_names-a.result.odd c.count_names-a.ensures in
    let o = tally_le (lent_table a.lent.now.output_table) a.u a.lent.now.outputs c.count_names-b.result.count c.count_names-b.result.odd c.count_names-b.ensures in
    omega (arith, c.requires)

pub returns : goal.returns
returns c =
    let a = c.args in
    let g : Graph = lent_graph a.lent.now in
    read_is g a.u c.requires.4 _ _ _ _ c.count_names-a.ensures c.count_names-b.ensures
