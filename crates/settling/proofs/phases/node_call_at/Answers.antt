-- `node_call_at` makes the node call at a node, and adds what it leaves to the tally.
use Rattle.graph.specs.Graph.{Graph}
use Rattle.settling.proofs.Stepping.{node_phase}
use Rattle.settling.proofs.phases.node_call_at.Goals as goal
use Rattle.settling.proofs.phases.node_call_at.Goals.{Start}
use Rattle.graph.specs.Tables.{lent_graph}

abbrev graph-of : Start → Graph
graph-of s = lent_graph s.args.lent.now

pub node_step-single-requires : goal.node_step-single-requires
node_step-single-requires c = (c.requires.0, c.requires.1, c.requires.2, c.requires.4.enough)

pub with_step-requires : goal.with_step-requires
with_step-requires c = c.requires.3

pub returns : goal.returns
returns c =
    node_phase (graph-of (goal.at.returns c).Start) c.args.scratch.now c.requires.0 c.args.lent.now.locks.now c.args.v _ _ _ _ c.node_step-single.ensures c.with_step.ensures
