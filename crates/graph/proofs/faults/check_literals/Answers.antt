-- `check_literals` meets its contract: the first fault of stray bits and literals. From its callees' contracts.
use Rattle.std.proofs.Common.{sym, ◌∙◌, arith}
use Rattle.graph.specs.Admission.{strays_number, literal_number}
use Rattle.graph.proofs.Answers.{ends_row}
use Rattle.graph.proofs.Literals.{held_literals}
use Rattle.graph.proofs.Tests.{none, first_first}
use Rattle.graph.proofs.faults.check_literals.Goals as goal

pub check_strays-requires : goal.check_strays-requires
check_strays-requires c =
    let t = c.args.lent.now.node_table in
    omega (arith, c.requires.3, held_literals t.indices.now t.bits.now)

pub returns-in_err-check_strays : goal.returns-in_err-check_strays
unfolding literal_number strays_number
returns-in_err-check_strays c =
    ends_row _ _ _ _ c.from_residual.ensures.1 (c.in_err-check_strays.ensures c.args.lent.now.node_table.indices.now) ∙ sym (first_first _ _ _)

pub check_strays-requires-2 : goal.check_strays-requires-2
check_strays-requires-2 c =
    let t = c.args.lent.now.output_table in
    omega (arith, c.requires.4, held_literals t.indices.now t.bits.now)

pub returns-in_err-check_strays-2 : goal.returns-in_err-check_strays-2
unfolding literal_number strays_number
returns-in_err-check_strays-2 c =
    let g = c.args.lent.now in
    none _ _ (sym (c.in_ok-check_strays.ensures g.node_table.indices.now))
    (ends_row _ _ _ _ c.from_residual-in_err-check_strays-2.ensures.1 (c.in_err-check_strays-2.ensures g.output_table.indices.now))
    ∙ sym (first_first _ _ _)

pub returns : goal.returns
unfolding literal_number strays_number
returns c =
    let g = c.args.lent.now in
    none _ _ (sym (c.in_ok-check_strays.ensures g.node_table.indices.now))
    (none _ _ (sym (c.in_ok-check_strays-2.ensures g.output_table.indices.now)) c.check_words.ensures)
    ∙ sym (first_first _ _ _)
