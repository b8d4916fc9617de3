-- `check_words` meets its contract: the node table's first fault, else the output table's. From its callees' contracts.
use Rattle.std.proofs.Common.{sym}
use Rattle.graph.specs.Tables.{lent_table}
use Rattle.graph.proofs.Answers.{ends_row}
use Rattle.graph.proofs.Tests.{none}
use Rattle.graph.proofs.faults.check_words.Goals as goal

pub check_nodes-requires : goal.check_nodes-requires
check_nodes-requires c =
    let p = c.requires in
    (p.0, p.1, p.3)

pub returns-in_err-check_nodes : goal.returns-in_err-check_nodes
returns-in_err-check_nodes c =
    let g = c.args.lent.now in
    ends_row _ _ _ _ c.from_residual.ensures.1 (c.in_err-check_nodes.ensures g.outputs (lent_table g.output_table))

pub check_outputs-requires : goal.check_outputs-requires
check_outputs-requires c =
    let p = c.requires in
    (p.0, p.1, p.2, p.4)

pub returns : goal.returns
returns c =
    let g = c.args.lent.now in
    none _ _ (sym (c.in_ok-check_nodes.ensures g.outputs (lent_table g.output_table))) (c.check_outputs.ensures (lent_table g.node_table))
