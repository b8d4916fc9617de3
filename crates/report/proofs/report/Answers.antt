-- `report` meets its contract: the lengths decide, and the rest is the report. From the laws on rooms and on outcomes.
use Rattle.std.proofs.Common.{refl, sym, arith}
use Rattle.graph.specs.Literals.{literals}
use Rattle.report.proofs.Room.{enough_is}
use Rattle.report.proofs.Outcomes.{ends_report, report_made}
use Rattle.report.proofs.report.Goals as goal

pub returns-in_err-check_room : goal.returns-in_err-check_room
returns-in_err-check_room c =
    let e = rw (c.room_of.ensures, c.room_of-2.ensures) at c.in_err-check_room.ensures in
    record { buffer_value = ends_report _ _ _ _ _ _ _ _ c.from_residual.ensures.1 e; scratch_kept = λ n. refl; fact = λ n. refl }

pub put_report-requires : goal.put_report-requires
put_report-requires c =
    let q = enough_is _ _ _ _ (rw (c.room_of.ensures, c.room_of-2.ensures) at (sym c.in_ok-check_room.ensures)) in
    omega (arith, q)

pub returns : goal.returns
returns c =
    let a = c.args in
    let m = c.put_report in
    let q = rw (c.room_of.ensures, c.room_of-2.ensures) at (sym c.in_ok-check_room.ensures) in record {
      buffer_value = report_made _ a.file.now (literals a.node_table.now a.node_bits.now) (literals a.output_table.now a.output_bits.now) a.locks.now _ a.buffer.now q m.ensures.buffer_after;
      scratch_kept = λ n. absurd (n refl);
      fact = m.ensures.fact;
    }
