-- `check_many` meets its contract: tables, moves enough, contents, then entry by entry. From the laws on tests.
use Rattle.std.proofs.Common.{◌≡◌, ℕ, length, sym, arith}
use Rattle.graph.specs.Admission.{content_number}
use Rattle.graph.specs.Finite.{if_less}
use Rattle.graph.specs.Tables.{lent_graph, lent_table}
use Rattle.graph.proofs.Admit.{tables_are, admitted_by}
use Rattle.graph.proofs.Answers.{ends_row}
use Rattle.graph.proofs.Tests.{fault, none, both, short_slice, long_slice}
use Rattle.graph.proofs.Words.{readable}
use Rattle.many.specs.Many.{many_number}
use Rattle.many.proofs.faults.check_many.Goals as goal
use Rattle.many.proofs.faults.check_many.Goals.{Else-bytes-list}

enough : (c : Else-bytes-list) → let a = c.args in
    ◌≡◌ {A = ℕ} (if_less (length a.bytes.now) (length a.list.now) 4 0) 0
enough c = sym (long_slice _ _ (omega (arith, c.if-bytes-list.false)))

pub returns-in_err-check_tables : goal.returns-in_err-check_tables
unfolding many_number
returns-in_err-check_tables c = ends_row _ _ _ _ c.from_residual.ensures.1 c.in_err-check_tables.ensures

pub returns-then-bytes-list : goal.returns-then-bytes-list
unfolding many_number
returns-then-bytes-list c = let e = short_slice _ _ c.if-bytes-list.true in none _ _ (sym c.in_ok-check_tables.ensures) (fault _ _ e (λ z. omega (arith, e, z)))

pub check_content-requires : goal.check_content-requires
check_content-requires c = sym c.in_ok-check_tables.ensures

pub returns-in_err-check_content : goal.returns-in_err-check_content
unfolding many_number
returns-in_err-check_content c =
    none _ _ (sym c.in_ok-check_tables.ensures)
    (none _ _ (enough (goal.at.returns-in_err-check_content c).Else-bytes-list) (ends_row _ _ _ _ c.from_residual-in_err-check_content.ensures.1 c.in_err-check_content.ensures))

pub check_list-requires : goal.check_list-requires
unfolding content_number
check_list-requires c =
    let g = lent_graph c.args.lent.now in
    let ls = c.args.lent.now.locks.now in
    let t = sym c.in_ok-check_tables.ensures in
    let r = tables_are g ls t in
    let w = admitted_by g ls t (both _ _ (sym c.in_ok-check_content.ensures)).0 in
    (record { few_inputs = r.few_inputs; few_nodes = r.few_nodes; words = readable g w; enough_locks = r.enough_locks }, omega (arith, c.if-bytes-list.false))

pub returns : goal.returns
unfolding many_number
returns c =
    let a = c.args in
    none _ _ (sym c.in_ok-check_tables.ensures)
    (none _ _ (enough (goal.at.returns c).Else-bytes-list) (none _ _ (sym c.in_ok-check_content.ensures) (c.check_list.ensures a.lent.now.outputs (lent_table a.lent.now.output_table))))
