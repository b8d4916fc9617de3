-- `complemented_edges` meets its contract. From the contracts of `check_admission` and `complemented`.
use Rattle.std.proofs.Common.{ℕ, [], ◌∷◌, sym, ap, ◌∙◌}
use Rattle.graph.specs.Answer.{accepted}
use Rattle.graph.proofs.Admit.{admitted}
use Rattle.graph.proofs.Answers.{ends_call, accepted_is}
use Rattle.graph.proofs.complemented_edges.Goals as goal

pub returns-in_err-check_admission : goal.returns-in_err-check_admission
returns-in_err-check_admission c = ends_call _ _ _ _ _ c.from_residual.ensures.1 c.in_err-check_admission.ensures

pub complemented-requires : goal.complemented-requires
complemented-requires c = admitted _ _ (sym c.in_ok-check_admission.ensures)

pub returns : goal.returns
returns c = ap (λ (n : ℕ). accepted (n ∷ [])) c.complemented.ensures.0 ∙ accepted_is _ _ (sym c.in_ok-check_admission.ensures)
