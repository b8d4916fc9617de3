-- `rewrite_still` fills scratch, decides the tree, writes its moves and counts again: that is the call.
use mathlib.Core.Path.{refl}
use Rattle.trees.proofs.Ready.{ordered_costs}
use Rattle.tree_call.proofs.Saved.{root_node}
use Rattle.resistive_call.proofs.Calling.{written_admitted, rewrite_is}
use Rattle.resistive_call.proofs.rewrite.rewrite_still.Goals as goal
use Rattle.resistive_call.proofs.rewrite.rewrite_still.Goals.{After-complemented-before, Start}

abbrev start : After-complemented-before → Start
start c = (goal.at.After-complemented-before c).Start

pub decide_still-requires : goal.decide_still-requires
decide_still-requires c =
    let p = (start (goal.at.decide_still-requires c).After-complemented-before).requires in
    let n = root_node _ _ _ p.1 refl in
    (c.fill_scratch.ensures.0, n.0, n.1, p.3)

pub write_tree-requires : goal.write_tree-requires
write_tree-requires c =
    let n = root_node _ _ _ (start (goal.at.write_tree-requires c).After-complemented-before).requires.1 refl in
    let e = c.decide_still.ensures in
    (ordered_costs _ _ _ e.1 c.fill_scratch.ensures.0, n.0, n.1, e.0.permitted)

pub complemented-after-requires : goal.complemented-after-requires
complemented-after-requires c =
    written_admitted _ _ _ _ (start (goal.at.complemented-after-requires c).After-complemented-before).requires.0 c.write_tree.ensures

pub returns : goal.returns
returns c =
    rewrite_is _ _ _ _ _ _ _ _ _ (start (goal.at.returns c).After-complemented-before).requires.0 (start (goal.at.returns c).After-complemented-before).requires.1 refl c.decide_still.ensures.0 c.write_tree.ensures c.complemented-before.ensures.0 c.complemented-after.ensures.0 c.saved_by.ensures
