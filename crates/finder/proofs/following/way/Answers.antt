-- `way` meets its contract. From the laws on ways.
use Rattle.graph.specs.Graph.{Graph, node}
use Rattle.finder.proofs.Meets.{bars_all}
use Rattle.finder.proofs.following.way.Goals as goal
use Rattle.finder.proofs.following.way.Goals.{Start}
use Rattle.finder.specs.Nodes.{nodes_in}

abbrev graph : Start → Graph
graph s = nodes_in s.args.graph.now

pub follow-requires : goal.follow-requires
follow-requires c = (c.requires.0, c.in-Some.ensures)

pub returns : goal.returns
returns c = let s = (goal.at.returns c).Start in bars_all (graph s) c.args.list.now c.args.m (node (graph s) c.args.v) c.requires.0.near.few
