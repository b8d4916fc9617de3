-- `check_evaluate` meets its contract: the first of the faults, in their order. From its callees' contracts.
use Rattle.std.proofs.Common.{sym, arith}
use Rattle.graph.proofs.Answers.{ends_row}
use Rattle.graph.proofs.Tests.{none}
use Rattle.graph.specs.Tables.{lent_graph}
use Rattle.evaluation.specs.Evaluation.{evaluate_number, scratch_number}
use Rattle.evaluation.proofs.Call.{met, short_words, short_results, long_slices}
use Rattle.evaluation.proofs.faults.check_evaluate.Goals as goal

pub returns-in_err-check_tables : goal.returns-in_err-check_tables
unfolding evaluate_number
returns-in_err-check_tables c = ends_row _ _ _ _ c.from_residual.ensures.1 c.in_err-check_tables.ensures

pub returns-then-words-lent : goal.returns-then-words-lent
unfolding evaluate_number
returns-then-words-lent c =
    let a = c.args in
    none _ _ (sym c.in_ok-check_tables.ensures) (met _ _ (omega arith) (short_words (lent_graph a.lent.now) a.words a.results (omega (arith, c.if-words-lent.true))))

pub returns-then-results-lent : goal.returns-then-results-lent
unfolding evaluate_number
returns-then-results-lent c =
    let a = c.args in
    none _ _ (sym c.in_ok-check_tables.ensures)
    (met _ _ (omega arith) (short_results (lent_graph a.lent.now) a.words a.results (omega (arith, c.if-words-lent.false)) (omega (arith, c.if-results-lent.true))))

pub check_content-requires : goal.check_content-requires
check_content-requires c = sym c.in_ok-check_tables.ensures

pub returns-in_err-check_content : goal.returns-in_err-check_content
unfolding evaluate_number
returns-in_err-check_content c =
    let a = c.args in
    none _ _ (sym c.in_ok-check_tables.ensures)
    (none _ _ (long_slices (lent_graph a.lent.now) a.words a.results (omega (arith, c.if-words-lent.false)) (omega (arith, c.if-results-lent.false)))
    (ends_row _ _ _ _ c.from_residual-in_err-check_content.ensures.1 c.in_err-check_content.ensures))

pub returns : goal.returns
unfolding evaluate_number scratch_number
returns c =
    let a = c.args in
    none _ _ (sym c.in_ok-check_tables.ensures)
    (none _ _ (long_slices (lent_graph a.lent.now) a.words a.results (omega (arith, c.if-words-lent.false)) (omega (arith, c.if-results-lent.false)))
    (none _ _ (sym c.in_ok-check_content.ensures) c.check_scratch.ensures))
