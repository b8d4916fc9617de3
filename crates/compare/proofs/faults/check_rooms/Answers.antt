-- `check_rooms` meets its contract: the first graph, the bytes, then the second graph. From the laws on tests.
use Rattle.std.proofs.Common.{sym, arith}
use Rattle.graph.proofs.Answers.{ends_row}
use Rattle.graph.proofs.Tests.{fault, none, short_slice, long_slice}
use Rattle.compare.specs.Compare.{rooms_number}
use Rattle.compare.proofs.faults.check_rooms.Goals as goal

pub returns-in_err-check_tables : goal.returns-in_err-check_tables
unfolding rooms_number
returns-in_err-check_tables c = ends_row _ _ _ _ c.from_residual.ensures.1 c.in_err-check_tables.ensures

pub returns-then-bytes-first : goal.returns-then-bytes-first
unfolding rooms_number
returns-then-bytes-first c =
    let a = c.args in
    let e = short_slice a.bytes a.first.now.nodes (omega arith) in
    none _ _ (sym c.in_ok-check_tables.ensures) (fault _ _ e (λ z. omega (arith, e, z)))

pub returns : goal.returns
unfolding rooms_number
returns c =
    let a = c.args in
    let e = long_slice a.bytes a.first.now.nodes (omega (arith, c.if-bytes-first.false)) in
    none _ _ (sym c.in_ok-check_tables.ensures) (none _ _ (sym e) c.check_tables-2.ensures)
