-- `make_move` makes a move and follows C. From what a move costs by its node's numbers; move 0 changes nothing.
use native.Mathlib.Omega.{arith}
use Rattle.graph.specs.Graph.{Graph, node}
use Rattle.moves.proofs.Moves.{moves_no_more}
use Rattle.state.proofs.Counting.{made_none, asked, counted_is}
use Rattle.state.proofs.moving.make_move.Goals as goal
use Rattle.state.proofs.moving.make_move.Goals.{Start}
use Rattle.graph.specs.Tables.{lent_graph}

abbrev graph-of : Start → Graph
graph-of s = lent_graph s.args.lent.now

pub returns-then-m-eq0 : goal.returns-then-m-eq0
returns-then-m-eq0 c =
    let a = c.args in
    made_none (graph-of (goal.at.returns-then-m-eq0 c).Start) a.scratch.now c.requires.0 (node (graph-of (goal.at.returns-then-m-eq0 c).Start) a.v) a.m a.count c.if-m-eq0.true c.requires.3

pub count_after-after-requires : goal.count_after-after-requires
count_after-after-requires c =
    let a = c.args in
    asked (graph-of (goal.at.count_after-after-requires c).Start) a.lent.now.locks.now a.scratch.now c.requires.0 a.v c.requires.1 c.numbers_now-node.result c.numbers_now-node.ensures a.m a.count c.requires.2 c.requires.3

pub turn_node-requires : goal.turn_node-requires
turn_node-requires c =
    let a = c.args in
    (c.requires.0, c.requires.1, omega (arith, c.requires.2, moves_no_more (graph-of (goal.at.turn_node-requires c).Start) a.lent.now.locks.now (node (graph-of (goal.at.turn_node-requires c).Start) a.v)))

pub returns : goal.returns
returns c =
    let k = c.count_after-after in
    let n = c.numbers_now-node in
    let a = c.args in
    record {
      became = c.turn_node.ensures;
      count = counted_is (graph-of (goal.at.returns c).Start) a.lent.now.locks.now a.scratch.now c.requires.0 a.v c.requires.1 n.result n.ensures a.m a.count k.result c.requires.3 k.ensures;
    }
