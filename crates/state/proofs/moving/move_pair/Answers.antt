-- `move_pair` makes both moves of a pair: one after the other they are the pair's choice.
use Rattle.graph.specs.Graph.{Graph}
use Rattle.state.proofs.Pairs.{still_counts, pair_made}
use Rattle.state.proofs.Parting.{same_parted}
use Rattle.state.proofs.moving.move_pair.Goals as goal
use Rattle.state.proofs.moving.move_pair.Goals.{Start}
use Rattle.graph.specs.Tables.{lent_graph}

abbrev graph-of : Start → Graph
graph-of s = lent_graph s.args.lent.now

pub make_move-after-requires : goal.make_move-after-requires
make_move-after-requires c =
    let a = c.args in
    let m = c.pair_moves-both in
    let r = c.make_move-middle in (
      r.ensures.became.ordered,
      c.requires.2,
      m.ensures.1,
      still_counts (graph-of (goal.at.make_move-after-requires c).Start) a.lent.now.locks.now a.scratch.now c.requires.0 a.p a.v c.requires.1 c.requires.2 m.result.named m.result.node m.ensures.0 m.ensures.1 r.new.scratch r.result r.ensures,
      c.requires.4,
    )

pub returns : goal.returns
returns c =
    let a = c.args in
    let m = c.pair_moves-both in
    let r = c.make_move-middle in
    let q = c.make_move-after in (
      pair_made (graph-of (goal.at.returns c).Start) a.lent.now.locks.now a.scratch.now c.requires.0 a.p a.v c.requires.1 c.requires.2 m.result.named m.result.node m.ensures.0 m.ensures.1
          r.new.scratch r.result r.ensures m.ensures.2 q.new.scratch q.result q.ensures,
      same_parted _ _ q.result m.ensures.3,
    )
