-- `pair_call_at` makes the pair call at a word of a node, and adds what it leaves to the tally.
use Rattle.graph.specs.Graph.{Graph}
use Rattle.settling.proofs.Stepping.{pair_phase}
use Rattle.settling.proofs.phases.pair_call_at.Goals as goal
use Rattle.settling.proofs.phases.pair_call_at.Goals.{Start}
use Rattle.graph.specs.Tables.{lent_graph}

abbrev graph-of : Start → Graph
graph-of s = lent_graph s.args.lent.now

pub pair_step-step-requires : goal.pair_step-step-requires
pair_step-step-requires c = (c.requires.0, c.requires.1, c.requires.2, c.requires.3, c.requires.5.enough)

pub with_step-requires : goal.with_step-requires
with_step-requires c = c.requires.4

pub returns : goal.returns
returns c =
    pair_phase (graph-of (goal.at.returns c).Start) c.args.scratch.now c.requires.0 c.args.lent.now.locks.now c.args.v c.args.k c.requires.2 _ _ _ _ c.pair_step-step.ensures c.with_step.ensures
