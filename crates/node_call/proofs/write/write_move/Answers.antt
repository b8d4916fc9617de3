-- `write_move` meets its contract. From the law of a move written.
use native.Mathlib.Omega.{arith}
use Prim.Native.Nat.{◌<◌}
use mathlib.Core.Path.{◌≡◌, ap, ◌∙◌}
use Rattle.graph.specs.Graph.{Graph, is_xor}
use Rattle.graph.specs.Literals.{graph_in, held, literals}
use Rattle.graph.proofs.Turned.{turned_held}
use Rattle.graph.proofs.Words.{readable}
use Rattle.moves.specs.Rows.{arity}
use Rattle.moves.proofs.Moves.{node_row}
use Rattle.node_call.specs.Write.{own_turns}
use Rattle.node_call.proofs.Turning.{move_written}
use Rattle.node_call.proofs.write.write_move.Goals as goal
use Rattle.node_call.proofs.write.write_move.Goals.{After-is_xor-xor, Start}

abbrev graph : Start → Graph
graph s = let a = s.args in graph_in a.inputs a.nodes a.outputs a.node_table.now a.node_bits.now a.output_table.now a.output_bits.now

-- the kind, as it was read

kind : (x : After-is_xor-xor) → x.is_xor-xor.result ≡ is_xor ((graph_in x.args.inputs x.args.nodes x.args.outputs x.args.node_table.now x.args.node_bits.now x.args.output_table.now x.args.output_bits.now)) x.args.v
kind x = let a = x.args in x.is_xor-xor.ensures a.inputs a.nodes a.outputs (literals a.output_table.now a.output_bits.now)

has_move : (x : After-is_xor-xor) → x.args.m < arity x.is_xor-xor.result
has_move x = omega (arith, ap arity (kind x), node_row ((graph_in x.args.inputs x.args.nodes x.args.outputs x.args.node_table.now x.args.node_bits.now x.args.output_table.now x.args.output_bits.now)) x.args.v x.args.m x.requires.2)

pub is_xor-xor-requires : goal.is_xor-xor-requires
is_xor-xor-requires c = readable (graph (goal.at.is_xor-xor-requires c).Start) c.requires.0 c.args.v c.requires.1

pub flag_of-t-requires : goal.flag_of-t-requires
flag_of-t-requires c = (has_move (goal.at.flag_of-t-requires c).After-is_xor-xor, omega arith)

pub turn_own-requires : goal.turn_own-requires
unfolding is_xor
turn_own-requires c =
    (readable (graph (goal.at.turn_own-requires c).Start) c.requires.0 c.args.v c.requires.1, has_move (goal.at.turn_own-requires c).After-is_xor-xor, kind (goal.at.turn_own-requires c).After-is_xor-xor)

pub turn_readers-requires : goal.turn_readers-requires
turn_readers-requires c =
    let a = c.args in
    let e = ap held c.turn_own.ensures ∙ turned_held (literals a.node_table.now a.node_bits.now) (own_turns a.v c.is_xor-xor.result a.m) in
    (omega (arith, e, c.requires.0.held_nodes), omega (arith, c.requires.0.few_inputs, c.requires.0.few_nodes, c.requires.1), omega (arith, c.flag_of-t.ensures.1))

pub returns : goal.returns
returns c =
    move_written (graph (goal.at.returns c).Start) c.requires.0 c.args.v c.args.m c.requires.1 c.is_xor-xor.result c.flag_of-t.result _ _ _ (kind (goal.at.returns c).After-is_xor-xor) c.flag_of-t.ensures.0 c.turn_own.ensures c.turn_readers.ensures c.turn_readers-2.ensures
