-- `check_find` meets its contract. From the definition.
use Rattle.std.proofs.Common.{sym}
use Rattle.graph.specs.Tables.{lent_graph, lent_table}
use Rattle.graph.proofs.Admit.{admitted}
use Rattle.graph.proofs.Answers.{ends_row}
use Rattle.graph.proofs.Tests.{none}
use Rattle.hidden.specs.Call.{find_number}
use Rattle.finder.proofs.faults.check_find.Goals as goal

pub returns-in_err-check_admission : goal.returns-in_err-check_admission
unfolding find_number
returns-in_err-check_admission c = ends_row _ _ _ _ c.from_residual.ensures.1 c.in_err-check_admission.ensures

pub check_scratch-requires : goal.check_scratch-requires
check_scratch-requires c = (admitted (lent_graph c.args.lent.now) c.args.lent.now.locks.now (sym c.in_ok-check_admission.ensures)).few_nodes

pub returns : goal.returns
unfolding find_number
returns c =
    let g = c.args.lent.now in
    none _ _ (sym c.in_ok-check_admission.ensures) (c.check_scratch.ensures g.inputs g.outputs (lent_table g.node_table) (lent_table g.output_table))
