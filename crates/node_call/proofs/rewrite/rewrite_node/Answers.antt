-- `rewrite_node` meets its contract. From the laws of decisions and outcomes.
use Rattle.graph.specs.Graph.{Graph, graph_of}
use Rattle.moves.proofs.Moves.{arity_pos, moves_row}
use Rattle.node_call.proofs.Outcomes.{counted, move_fits, node_outcome}
use Rattle.graph.specs.Literals.{literals}
use Rattle.node_call.proofs.rewrite.rewrite_node.Goals as goal

pub first_least-m-requires : goal.first_least-m-requires
first_least-m-requires c =
    let a = c.args in
    let g : Graph = graph_of a.inputs a.nodes a.outputs (literals a.node_table.now a.node_bits.now) (literals a.output_table.now a.output_bits.now) in
    let n = c.numbers_of-n in
    let k = counted g a.locks.now a.v n.result c.requires.0 n.ensures in
    (k.numbers, k.has)

pub move_cost-before-requires : goal.move_cost-before-requires
move_cost-before-requires c =
    let a = c.args in
    let g : Graph = graph_of a.inputs a.nodes a.outputs (literals a.node_table.now a.node_bits.now) (literals a.output_table.now a.output_bits.now) in
    let n = c.numbers_of-n in
    ((counted g a.locks.now a.v n.result c.requires.0 n.ensures).numbers, arity_pos _)

pub move_cost-after-requires : goal.move_cost-after-requires
move_cost-after-requires c =
    let a = c.args in
    let g : Graph = graph_of a.inputs a.nodes a.outputs (literals a.node_table.now a.node_bits.now) (literals a.output_table.now a.output_bits.now) in
    let n = c.numbers_of-n in
    let k = counted g a.locks.now a.v n.result c.requires.0 n.ensures in
    (k.numbers, moves_row _ _ _ k.has c.first_least-m.ensures.below)

pub node_odds-odds-requires : goal.node_odds-odds-requires
node_odds-odds-requires c =
    let a = c.args in
    let g : Graph = graph_of a.inputs a.nodes a.outputs (literals a.node_table.now a.node_bits.now) (literals a.output_table.now a.output_bits.now) in
    let n = c.numbers_of-n in
    (counted g a.locks.now a.v n.result c.requires.0 n.ensures, c.first_least-m.ensures.below)

pub write_move-requires : goal.write_move-requires
write_move-requires c =
    let a = c.args in
    let g : Graph = graph_of a.inputs a.nodes a.outputs (literals a.node_table.now a.node_bits.now) (literals a.output_table.now a.output_bits.now) in
    let n = c.numbers_of-n in
    let m = move_fits g a.locks.now c.requires.0 a.v c.requires.1 n.result n.ensures _ c.first_least-m.ensures in
    (c.requires.0, c.requires.1, m)

pub returns : goal.returns
returns c =
    let a = c.args in
    let g : Graph = graph_of a.inputs a.nodes a.outputs (literals a.node_table.now a.node_bits.now) (literals a.output_table.now a.output_bits.now) in
    let n = c.numbers_of-n in
    node_outcome g a.locks.now c.requires.0 a.v c.requires.1 n.result n.ensures _ c.first_least-m.ensures _ _ _ c.node_odds-odds.result c.write_move.ensures c.move_cost-before.ensures.0 c.move_cost-after.ensures.0 c.node_odds-odds.ensures _ c.saved_by.ensures
