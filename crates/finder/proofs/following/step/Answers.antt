-- `step` meets its contract. From the laws on ways.
use native.Mathlib.Omega.{arith}
use Rattle.graph.specs.Graph.{Graph}
use Rattle.finder.proofs.Meets.{listed_rise, inside, comes_on}
use Rattle.finder.proofs.following.step.Goals as goal
use Rattle.finder.proofs.following.step.Goals.{Start}
use Rattle.finder.specs.Nodes.{nodes_in}

abbrev graph : Start → Graph
graph s = nodes_in s.args.graph.now

pub named_at-x-requires : goal.named_at-x-requires
named_at-x-requires c =
    let a = c.args in
    (c.requires.0.admitted, inside (graph (goal.at.named_at-x-requires c).Start) a.v a.m a.list.now c.requires.0 a.from a.by (omega (arith, c.if-from-graph.false)) c.requires.1 _ c.wide.ensures, c.requires.2)

pub place_of-requires : goal.place_of-requires
place_of-requires c =
    (c.requires.0.few, c.requires.0.listed, listed_rise (graph (goal.at.place_of-requires c).Start) c.args.v c.args.m c.args.list.now c.requires.0)

pub returns : goal.returns
returns c =
    let x = c.named_at-x in
    let w = c.wide in
    let a = c.args in
    let s = (goal.at.returns c).Start in
    comes_on (graph s) a.v a.m a.list.now c.requires.0 a.from a.by (omega (arith, c.if-from-graph.false)) c.requires.1 w.result w.ensures x.result x.ensures (omega (arith, c.if-x-eq0.false)) c.place_of.result c.place_of.ensures.all
