-- `preview_tree` meets its contract: the moves told, and what they save in both parts. From what is told of a decided tree.
use mathlib.Core.Path.{sym, ap, ◌∙◌}
use Rattle.graph.specs.Count.{C}
use Rattle.tree_call.proofs.Saved.{root_node}
use Rattle.preview.proofs.SameCall.{preview_is}
use Rattle.preview.proofs.ToldMoves.{decided_itself}
use Rattle.preview.proofs.deciding.preview_tree.Goals as goal

pub tell_tree-requires : goal.tell_tree-requires
tell_tree-requires c =
    let p = c.requires in
    let n = root_node _ _ _ p.1 c.wide-v.ensures in
    (p.0, n.0, n.1, p.2, p.3, p.4)

pub decided_step-step-requires : goal.decided_step-step-requires
decided_step-step-requires c =
    let p = c.requires in
    let n = root_node _ _ _ p.1 c.wide-v.ensures in
    let t = c.tell_tree.ensures.1 in
    (t.ordered, n.0, n.1, c.complemented-before.ensures.0 ∙ ap C (sym t.itself), decided_itself _ _ _ _ t, p.4)

pub returns : goal.returns
returns c =
    let p = c.requires in
    preview_is _ _ _ _ _ _ _ _ _ _ _ p.1 c.wide-v.ensures c.tell_tree.ensures c.decided_step-step.ensures c.complemented-before.ensures.0 c.saved_by.ensures
