-- `rewrite_tree` decides the tree, makes its moves in scratch and writes them: that is the tree call.
use mathlib.Core.Path.{refl, sym, ap, ◌∙◌}
use Rattle.graph.specs.Count.{C}
use Rattle.graph.specs.Graph.{Graph}
use Rattle.graph.specs.Literals.{graph_in}
use Rattle.moves.specs.Call.{moved}
use Rattle.moves.specs.Tree.{tree}
use Rattle.trees.proofs.Decided.{decided_costs, decided_kept}
use Rattle.trees.proofs.Ready.{ordered_costs, stands_costs}
use Rattle.tree_call.proofs.Saved.{root_node, rewrite_is}
use Rattle.tree_call.proofs.rewrite.rewrite_tree.Goals as goal
use Rattle.tree_call.proofs.rewrite.rewrite_tree.Goals.{After-complemented-before, Start}

abbrev start : After-complemented-before → Start
start c = (goal.at.After-complemented-before c).Start

abbrev graph : Start → Graph
graph s = let a = s.args in graph_in a.inputs a.nodes a.outputs a.node_table.now a.node_bits.now a.output_table.now a.output_bits.now

pub decide_tree-requires : goal.decide_tree-requires
decide_tree-requires c =
    let p = (start (goal.at.decide_tree-requires c).After-complemented-before).requires in
    let n = root_node _ _ _ p.1 refl in
    (c.fill_scratch.ensures.0, n.0, n.1, p.3)

pub decided_step-step-requires : goal.decided_step-step-requires
decided_step-step-requires c =
    let p = (start (goal.at.decided_step-step-requires c).After-complemented-before).requires in
    let n = root_node _ _ _ p.1 refl in
    let f = c.fill_scratch.ensures in
    let e = c.decide_tree.ensures in
    (ordered_costs _ _ _ e.1 f.0, n.0, n.1, c.complemented-before.ensures.0 ∙ ap C (sym (stands_costs _ _ _ e.1 ∙ f.1)), decided_costs _ _ _ e.1 _ _ e.0, p.3)

pub write_tree-requires : goal.write_tree-requires
write_tree-requires c =
    let n = root_node _ _ _ (start (goal.at.write_tree-requires c).After-complemented-before).requires.1 refl in
    let k = c.decided_step-step.ensures.0.became in
    let e = c.decide_tree.ensures.0 in
    (k.ordered, n.0, n.1, (decided_kept _ _ _ _ _ k.kept (rw c.fill_scratch.ensures.1 at e)).permitted)

pub returns : goal.returns
returns c =
    let z = stands_costs (graph (start (goal.at.returns c).After-complemented-before)) _ _ c.decide_tree.ensures.1 ∙ c.fill_scratch.ensures.1 in
    let e = c.decide_tree.ensures.0 in
    let k = decided_kept _ _ _ _ _ c.decided_step-step.ensures.0.became.kept (rw c.fill_scratch.ensures.1 at e) in
    rewrite_is _ _ _ _ _ _ _ _ _ _ (start (goal.at.returns c).After-complemented-before).requires.1 refl z c.decided_step-step.ensures (c.write_tree.ensures ∙ ap (moved _ (tree _ _)) k.best) c.complemented-before.ensures.0 c.saved_by.ensures
