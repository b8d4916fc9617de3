-- `check_node` meets its contract. From the laws on faults.
use mathlib.Core.Path.{sym}
use Rattle.graph.specs.Tables.{lent_graph, lent_table}
use Rattle.graph.proofs.Admit.{admitted}
use Rattle.graph.proofs.Answers.{ends_row}
use Rattle.graph.proofs.Tests.{none}
use Rattle.moves.specs.Call.{node_number}
use Rattle.node_call.proofs.faults.check_node.Goals as goal

pub returns-in_err-check_admission : goal.returns-in_err-check_admission
unfolding node_number
returns-in_err-check_admission c = ends_row _ _ _ _ c.from_residual.ensures.1 c.in_err-check_admission.ensures

pub check_node-requires : goal.check_node-requires
check_node-requires c =
    let a = c.args in
    let d = admitted (lent_graph a.lent.now) a.lent.now.locks.now (sym c.in_ok-check_admission.ensures) in
    (d.few_inputs, d.few_nodes)

pub returns : goal.returns
unfolding node_number
returns c =
    let g = c.args.lent.now in
    none _ _ (sym c.in_ok-check_admission.ensures) (c.check_node.ensures g.outputs (lent_table g.node_table) (lent_table g.output_table))
