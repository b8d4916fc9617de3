-- `tree_call_at` makes the tree call at a root, which the mark in field 3 tells, and nothing elsewhere.
use Rattle.graph.specs.Graph.{Graph}
use Rattle.settling.proofs.Stepping.{marked_root, unmarked_inner, tree_idle, tree_phase}
use Rattle.settling.proofs.phases.tree_call_at.Goals as goal
use Rattle.settling.proofs.phases.tree_call_at.Goals.{Start}
use Rattle.graph.specs.Tables.{lent_graph}

abbrev graph-of : Start → Graph
graph-of s = lent_graph s.args.lent.now

pub returns-then-scratch-only : goal.returns-then-scratch-only
returns-then-scratch-only c =
    tree_idle (graph-of (goal.at.returns-then-scratch-only c).Start) c.args.scratch.now c.requires.0 c.args.v c.requires.1 c.args.lent.now.locks.now c.args.tally c.requires.2
    (unmarked_inner (graph-of (goal.at.returns-then-scratch-only c).Start) c.args.scratch.now c.requires.0 c.args.v c.requires.1 c.if-scratch-only.true)

pub tree_step-step-requires : goal.tree_step-step-requires
tree_step-step-requires c =
    (c.requires.0, c.requires.1, marked_root (graph-of (goal.at.tree_step-step-requires c).Start) c.args.scratch.now c.requires.0 c.args.v c.requires.1 c.if-scratch-only.false, c.requires.2, c.requires.4.enough)

pub with_step-requires : goal.with_step-requires
with_step-requires c = c.requires.3

pub returns : goal.returns
returns c =
    tree_phase (graph-of (goal.at.returns c).Start) c.args.scratch.now c.requires.0 c.args.v c.requires.1 c.args.lent.now.locks.now
    (marked_root (graph-of (goal.at.returns c).Start) c.args.scratch.now c.requires.0 c.args.v c.requires.1 c.if-scratch-only.false) _ _ _ _ c.tree_step-step.ensures c.with_step.ensures
