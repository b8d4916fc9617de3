-- `check_settling` meets its contract: the first fault of a settling is that of the admission check, or short scratch.
use Rattle.std.proofs.Common.{sym, refl, arith}
use Rattle.graph.proofs.Answers.{ends_row}
use Rattle.graph.proofs.Tests.{none, less, no_less}
use Rattle.moves.specs.Call.{scratch_fault}
use Rattle.rounds.specs.Settle.{settle_number}
use Rattle.settling.proofs.faults.check_settling.Goals as goal

pub returns-in_err-check_admission : goal.returns-in_err-check_admission
unfolding settle_number
returns-in_err-check_admission c = ends_row _ _ _ _ c.from_residual.ensures.1 c.in_err-check_admission.ensures

pub returns-then-words-lent : goal.returns-then-words-lent
unfolding settle_number scratch_fault
returns-then-words-lent c = none _ _ (sym c.in_ok-check_admission.ensures) (less _ _ _ _ (omega arith) refl)

pub returns : goal.returns
unfolding settle_number scratch_fault
returns c = none _ _ (sym c.in_ok-check_admission.ensures) (no_less _ _ _ _ (omega arith) refl)
