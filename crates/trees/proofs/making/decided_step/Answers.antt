-- `decided_step` meets its contract: the root's odd readers stand in scratch before and after. From the law on what a tree call saves on
-- other edges.
use native.Mathlib.Omega.{arith}
use Rattle.graph.specs.Graph.{Graph}
use Rattle.trees.proofs.Parting.{tree_parted}
use Rattle.trees.proofs.making.decided_step.Goals as goal
use Rattle.trees.proofs.making.decided_step.Goals.{Start}
use Rattle.graph.specs.Tables.{lent_graph}

abbrev graph-of : Start → Graph
graph-of s = lent_graph s.args.lent.now

pub read-before-requires : goal.read-before-requires
read-before-requires c = let p = c.requires in omega (arith, p.1, p.0.admitted.few_nodes, p.0.long)

pub read-after-requires : goal.read-after-requires
read-after-requires c = let p = c.requires in omega (arith, p.1, p.0.admitted.few_nodes, c.make_moves-made.ensures.became.ordered.long)

pub returns : goal.returns
returns c =
    let a = c.args in
    let m = c.make_moves-made.ensures in
    (m, tree_parted (graph-of (goal.at.returns c).Start) a.lent.now.locks.now a.scratch.now c.requires.0 a.root c.requires.1 c.requires.2 _ _ m _ _ c.read-before.ensures c.read-after.ensures)
