-- `check_export` meets its contract: the first fault of admission, scratch and the buffer. From the laws on tests.
use mathlib.Core.Path.{refl, sym}
use native.Mathlib.Omega.{arith}
use Rattle.graph.proofs.Admit.{admitted}
use Rattle.graph.proofs.Answers.{ends_row}
use Rattle.graph.proofs.Tests.{none, less, no_less}
use Rattle.aiger.specs.Export.{export_number}
use Rattle.aiger_export.proofs.Widths.{text_most}
use Rattle.aiger_export.proofs.faults.check_export.Goals as goal

pub returns-in_err-circuit-clause-number : goal.returns-in_err-circuit-clause-number
unfolding export_number
returns-in_err-circuit-clause-number c = ends_row _ _ _ _ c.from_residual.ensures.1 c.in_err-circuit.ensures.number

pub returns-then-words-lent-clause-number : goal.returns-then-words-lent-clause-number
unfolding export_number
returns-then-words-lent-clause-number c = none _ _ (sym c.in_ok-circuit.ensures.number) (less _ _ _ _ c.if-words-lent.true refl)

pub returns-then-most_bytes-room-clause-number : goal.returns-then-most_bytes-room-clause-number
unfolding export_number
returns-then-most_bytes-room-clause-number c =
    let passed = sym c.in_ok-circuit.ensures.number in
    let m = text_most _ (admitted _ _ passed) in
    none _ _ passed (no_less _ _ _ _ c.if-words-lent.false (no_less _ _ _ _ (omega arith) refl))

pub returns-then-room-text_size-clause-number : goal.returns-then-room-text_size-clause-number
unfolding export_number
returns-then-room-text_size-clause-number c =
    let size = rw c.in_ok-circuit.ensures.same at c.text_size.ensures in
    none _ _ (sym c.in_ok-circuit.ensures.number) (no_less _ _ _ _ c.if-words-lent.false (less _ _ _ _ (omega (arith, size)) refl))

pub returns-clause-number : goal.returns-clause-number
unfolding export_number
returns-clause-number c =
    let size = rw c.in_ok-circuit.ensures.same at c.text_size.ensures in
    none _ _ (sym c.in_ok-circuit.ensures.number) (no_less _ _ _ _ c.if-words-lent.false (no_less _ _ _ _ (omega (arith, size)) refl))
