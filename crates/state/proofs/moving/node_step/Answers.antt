-- `node_step` is the node call: the first least move by the node's numbers is the best of the node.
use Rattle.graph.specs.Graph.{Graph}
use Rattle.moves.specs.Decide.{Counted}
use Rattle.state.proofs.Counting.{counted_now, first_fits, node_made}
use Rattle.state.proofs.Parting.{node_parted}
use Rattle.state.proofs.moving.node_step.Goals as goal
use Rattle.state.proofs.moving.node_step.Goals.{After-numbers_now-node, Start}
use Rattle.graph.specs.Tables.{lent_graph}

abbrev graph-of : Start → Graph
graph-of s = lent_graph s.args.lent.now

counted : (n : After-numbers_now-node) → Counted n.numbers_now-node.result
counted n = counted_now (graph-of (goal.at.After-numbers_now-node n).Start) n.args.lent.now.locks.now n.args.scratch.now n.requires.0 n.args.v n.requires.1 n.numbers_now-node.result n.numbers_now-node.ensures

pub first_least-m-requires : goal.first_least-m-requires
first_least-m-requires c = let k = counted (goal.at.first_least-m-requires c).After-numbers_now-node in (k.numbers, k.has)

pub node_odds-odds-requires : goal.node_odds-odds-requires
node_odds-odds-requires c = (counted (goal.at.node_odds-odds-requires c).After-numbers_now-node, c.first_least-m.ensures.below)

pub make_move-after-requires : goal.make_move-after-requires
make_move-after-requires c =
    let f = c.first_least-m in (
      c.requires.0,
      c.requires.1,
      first_fits (graph-of (goal.at.make_move-after-requires c).Start) c.args.lent.now.locks.now c.args.scratch.now c.requires.0 c.args.v c.requires.1 c.numbers_now-node.result c.numbers_now-node.ensures f.result f.ensures,
      c.requires.2,
      c.requires.3,
    )

pub returns : goal.returns
returns c =
    let t = c.make_move-after in
    let d = c.node_odds-odds in
    let f = c.first_least-m in
    let a = c.args in (
      node_made (graph-of (goal.at.returns c).Start) a.lent.now.locks.now a.scratch.now c.requires.0 a.v c.requires.1 c.numbers_now-node.result c.numbers_now-node.ensures f.result f.ensures t.new.scratch t.result t.ensures,
      node_parted (graph-of (goal.at.returns c).Start) a.lent.now.locks.now a.scratch.now c.requires.0 a.v c.requires.1 c.numbers_now-node.result c.numbers_now-node.ensures f.result f.ensures d.result d.ensures t.result,
    )
