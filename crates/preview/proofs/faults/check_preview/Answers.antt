-- `check_preview` meets its contract: the tables, the bytes, then what the tree call asks. From the laws on tests.
use Rattle.std.proofs.Common.{sym, arith}
use Rattle.graph.proofs.Answers.{ends_row}
use Rattle.graph.proofs.Tests.{fault, none, short_slice, long_slice}
use Rattle.preview.specs.Preview.{preview_number}
use Rattle.preview.proofs.faults.check_preview.Goals as goal

pub returns-in_err-check_tables : goal.returns-in_err-check_tables
unfolding preview_number
returns-in_err-check_tables c = ends_row _ _ _ _ c.from_residual.ensures.1 c.in_err-check_tables.ensures

pub returns-then-bytes-lent : goal.returns-then-bytes-lent
unfolding preview_number
returns-then-bytes-lent c =
    let a = c.args in
    let e = short_slice a.bytes a.lent.now.nodes (omega arith) in
    none _ _ (sym c.in_ok-check_tables.ensures) (fault _ _ e (λ z. omega (arith, e, z)))

pub returns : goal.returns
unfolding preview_number
returns c =
    let a = c.args in
    none _ _ (sym c.in_ok-check_tables.ensures) (none _ _ (sym (long_slice a.bytes a.lent.now.nodes (omega arith))) c.check_tree.ensures)
