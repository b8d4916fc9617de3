-- `check_write` ends by the admission's fault, or 9 where the file is longer than the buffer. From the laws on tests.
use native.Mathlib.Omega.{arith}
use mathlib.Core.Path.{refl, sym}
use Rattle.graph.specs.Graph.{Graph}
use Rattle.graph.proofs.Admit.{admitted, locks_admitted}
use Rattle.graph.proofs.Answers.{ends_row}
use Rattle.graph.proofs.Tests.{none, less, no_less}
use Rattle.graph.proofs.Words.{readable}
use Rattle.tagged_file.specs.Write.{write_number}
use Rattle.tagged_file.proofs.WholeWrite.{file_most}
use Rattle.tagged_file.proofs.faults.check_write.Goals as goal
use Rattle.tagged_file.proofs.faults.check_write.Goals.{Start}
use Rattle.graph.specs.Tables.{lent_graph, lent_table}

abbrev g : Start → Graph
g s =
    let a = s.args in
    lent_graph a.lent.now

pub returns-in_err-check_admission : goal.returns-in_err-check_admission
unfolding write_number
returns-in_err-check_admission c = ends_row _ _ _ _ c.from_residual.ensures.1 c.in_err-check_admission.ensures

pub returns-then-most_bytes-room : goal.returns-then-most_bytes-room
unfolding write_number
returns-then-most_bytes-room c =
    let m = file_most (g (goal.at.returns-then-most_bytes-room c).Start) c.args.lent.now.locks.now in
    none _ _ (sym c.in_ok-check_admission.ensures) (no_less _ _ _ _ (omega arith) refl)

pub file_bytes-requires : goal.file_bytes-requires
file_bytes-requires c =
    let z = sym c.in_ok-check_admission.ensures in
    (readable (g (goal.at.file_bytes-requires c).Start) (admitted (g (goal.at.file_bytes-requires c).Start) c.args.lent.now.locks.now z), (locks_admitted (g (goal.at.file_bytes-requires c).Start) c.args.lent.now.locks.now z).enough)

pub returns-then-room-file_bytes : goal.returns-then-room-file_bytes
unfolding write_number
returns-then-room-file_bytes c =
    let a = c.args in
    let l = c.file_bytes.ensures a.lent.now.inputs (lent_table a.lent.now.output_table) in
    none _ _ (sym c.in_ok-check_admission.ensures) (less _ _ _ _ (omega arith) refl)

pub returns : goal.returns
unfolding write_number
returns c =
    let a = c.args in
    let l = c.file_bytes.ensures a.lent.now.inputs (lent_table a.lent.now.output_table) in
    none _ _ (sym c.in_ok-check_admission.ensures) (no_less _ _ _ _ (omega arith) refl)
