-- `write_inner` meets its contract. From the law of a move written whose node has one reader.
use mathlib.Core.Path.{◌≡◌, ap}
use Prim.Native.Nat.{ℕ, ◌+◌, ◌<◌}
use native.Mathlib.Omega.{arith}
use Rattle.graph.specs.Graph.{Graph, word, index, is_xor}
use Rattle.graph.specs.Literals.{graph_in}
use Rattle.graph.proofs.Words.{readable}
use Rattle.moves.specs.Rows.{arity}
use Rattle.moves.proofs.Moves.{node_row}
use Rattle.moves.proofs.Readers.{names, single}
use Rattle.node_call.proofs.Turning.{turned_index, inner_written}
use Rattle.tree_call.proofs.writing.write_inner.Goals as goal
use Rattle.tree_call.proofs.writing.write_inner.Goals.{After-is_xor-xor, Start}
use Rattle.graph.specs.Tables.{lent_table}

abbrev graph : Start → Graph
graph s = let a = s.args in graph_in a.inputs a.nodes a.outputs a.node_table.now a.node_bits.now a.output_table.now.indices.now a.output_table.now.bits.now

-- the kind, as it was read

kind : (x : After-is_xor-xor) → x.is_xor-xor.result ≡ is_xor (graph (goal.at.After-is_xor-xor x).Start) x.args.v
kind x = let a = x.args in x.is_xor-xor.ensures a.inputs a.nodes a.outputs (lent_table a.output_table.now)

has_move : (x : After-is_xor-xor) → x.args.m < arity x.is_xor-xor.result
has_move x = omega (arith, ap arity (kind x), node_row (graph (goal.at.After-is_xor-xor x).Start) x.args.v x.args.m x.requires.2)

pub is_xor-xor-requires : goal.is_xor-xor-requires
is_xor-xor-requires c = readable (graph (goal.at.is_xor-xor-requires c).Start) c.requires.0 c.args.v c.requires.1

pub flag_of-t-requires : goal.flag_of-t-requires
flag_of-t-requires c = (has_move (goal.at.flag_of-t-requires c).After-is_xor-xor, omega arith)

pub turn_own-requires : goal.turn_own-requires
unfolding is_xor
turn_own-requires c =
    (readable (graph (goal.at.turn_own-requires c).Start) c.requires.0 c.args.v c.requires.1, has_move (goal.at.turn_own-requires c).After-is_xor-xor, kind (goal.at.turn_own-requires c).After-is_xor-xor)

pub turn_word-requires : goal.turn_word-requires
turn_word-requires c =
    let a = c.args in
    let g = graph (goal.at.turn_word-requires c).Start in
    let u : ℕ = a.inputs + 1 + a.v in
    let one = (single g u c.requires.3).at in
    let i = turned_index g.nodes _ _ c.turn_own.ensures a.p (omega (arith, c.requires.4, one.below, c.requires.0.held_nodes)) in
    (omega (arith, c.flag_of-t.ensures.1), i.0, λ z. omega (arith, i.1, ap (λ (k : ℕ). index (word g k)) c.requires.4, (names g u _ one.passes).1, c.requires.0.few_inputs, c.requires.0.few_nodes, c.requires.1))

pub returns : goal.returns
returns c =
    inner_written (graph (goal.at.returns c).Start) c.requires.0 c.args.v c.args.m c.requires.1 c.requires.3 c.is_xor-xor.result c.flag_of-t.result c.args.p _ _ (kind (goal.at.returns c).After-is_xor-xor) c.flag_of-t.ensures.0 c.requires.4 c.turn_own.ensures c.turn_word.ensures
