-- The checks in their order: admission, node, root, scratch.
use mathlib.Core.Path.{◌≡◌, sym}
use Rattle.graph.specs.Tables.{lent_graph, lent_table}
use Rattle.graph.proofs.Admit.{admitted}
use Rattle.graph.proofs.Answers.{ends_row}
use Rattle.graph.proofs.Tests.{none}
use Rattle.moves.specs.Call.{node_fault, tree_number}
use Rattle.moves.proofs.Known.{node_known}
use Rattle.tree_call.proofs.faults.check_tree.Goals as goal
use Rattle.tree_call.proofs.faults.check_tree.Goals.{In_ok-check_node}

is_node : (c : In_ok-check_node) → node_fault (lent_graph c.args.lent.now) c.args.root ≡ 0
is_node c = let g = c.args.lent.now in sym (c.in_ok-check_node.ensures g.outputs (lent_table g.node_table) (lent_table g.output_table))

pub returns-in_err-check_admission : goal.returns-in_err-check_admission
unfolding tree_number
returns-in_err-check_admission c = ends_row _ _ _ _ c.from_residual.ensures.1 c.in_err-check_admission.ensures

pub check_node-requires : goal.check_node-requires
check_node-requires c =
    let g = c.args.lent.now in
    let d = admitted (lent_graph g) g.locks.now (sym c.in_ok-check_admission.ensures) in
    (d.few_inputs, d.few_nodes)

pub returns-in_err-check_node : goal.returns-in_err-check_node
unfolding tree_number
returns-in_err-check_node c =
    let g = c.args.lent.now in
    none _ _ (sym c.in_ok-check_admission.ensures)
    (ends_row _ _ _ _ c.from_residual-in_err-check_node.ensures.1 (c.in_err-check_node.ensures g.outputs (lent_table g.node_table) (lent_table g.output_table)))

pub check_root-requires : goal.check_root-requires
check_root-requires c =
    let g = c.args.lent.now in
    (admitted (lent_graph g) g.locks.now (sym c.in_ok-check_admission.ensures), (node_known (lent_graph g) c.args.root (is_node (goal.at.check_root-requires c).In_ok-check_node)).1)

pub returns-in_err-check_root : goal.returns-in_err-check_root
unfolding tree_number
returns-in_err-check_root c =
    none _ _ (sym c.in_ok-check_admission.ensures)
    (none _ _ (is_node (goal.at.returns-in_err-check_root c).In_ok-check_node)
    (ends_row _ _ _ _ c.from_residual-in_err-check_root.ensures.1 c.in_err-check_root.ensures))

pub check_scratch-requires : goal.check_scratch-requires
check_scratch-requires c =
    let g = c.args.lent.now in
    (admitted (lent_graph g) g.locks.now (sym c.in_ok-check_admission.ensures)).few_nodes

pub returns : goal.returns
unfolding tree_number
returns c =
    let g = c.args.lent.now in
    none _ _ (sym c.in_ok-check_admission.ensures)
    (none _ _ (is_node (goal.at.returns c).In_ok-check_node)
    (none _ _ (sym c.in_ok-check_root.ensures)
    (c.check_scratch.ensures g.inputs g.outputs (lent_table g.node_table) (lent_table g.output_table))))
