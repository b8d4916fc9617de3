-- `tell_tree` fills scratch, decides the tree and tells its moves. From what is told of a decided tree.
use native.Mathlib.Omega.{arith}
use Rattle.trees.proofs.Ready.{ordered_costs}
use Rattle.preview.proofs.ToldMoves.{told_tree, told_decided, still_stored}
use Rattle.preview.proofs.deciding.tell_tree.Goals as goal

pub decide_tree-requires : goal.decide_tree-requires
decide_tree-requires c = let p = c.requires in (c.fill_scratch.ensures.0, p.1, p.2, p.5)

pub clear-requires : goal.clear-requires
clear-requires c = let p = c.requires in (p.0.few_nodes, p.4)

pub tell-requires : goal.tell-requires
tell-requires c =
    let p = c.requires in
    let d = c.decide_tree.ensures in
    (ordered_costs _ _ _ d.1 c.fill_scratch.ensures.0, p.1, p.2, still_stored _ _ _ _ _ d.1 d.0, omega (arith, p.4, c.clear.ensures.same))

pub returns : goal.returns
returns c =
    let f = c.fill_scratch.ensures in
    let d = c.decide_tree.ensures in
    let cl = c.clear.ensures in
    let to = c.tell.ensures in
    (told_tree _ _ _ _ _ _ _ _ f.1 d.0 d.1 cl to, told_decided _ _ _ _ _ _ _ _ f.1 d.0 d.1 cl to (ordered_costs _ _ _ d.1 f.0))
