-- `write_pair` meets its contract. From the laws of two moves written one after the other.
use Rattle.graph.specs.Graph.{Graph}
use Rattle.graph.specs.Literals.{graph_in}
use Rattle.node_call.proofs.Turning.{second_admitted, second_fits, pair_written}
use Rattle.node_call.proofs.write.write_pair.Goals as goal
use Rattle.node_call.proofs.write.write_pair.Goals.{Start}

abbrev graph : Start → Graph
graph s = let a = s.args in graph_in a.inputs a.nodes a.outputs a.node_table.now a.node_bits.now a.output_table.now a.output_bits.now

pub write_move-requires-2 : goal.write_move-requires-2
write_move-requires-2 c =
    let a = c.args in
    let p = c.requires in
    (second_admitted (graph (goal.at.write_move-requires-2 c).Start) p.0 a.p a.v a.k a.m p.3 p.4 p.5 _ c.write_move.ensures, p.2, second_fits (graph (goal.at.write_move-requires-2 c).Start) p.0 a.p a.v a.k a.m p.3 p.4 p.5 _ c.write_move.ensures)

pub returns : goal.returns
returns c =
    let a = c.args in
    let p = c.requires in
    pair_written (graph (goal.at.returns c).Start) p.0 a.p a.v a.k a.m p.3 p.4 p.5 _ c.write_move.ensures _ c.write_move-2.ensures
