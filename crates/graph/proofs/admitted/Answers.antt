-- `admitted` meets its contract: what the checks have let through is a circuit. From the contract of `check_admission`.
use Rattle.std.proofs.Common.{sym}
use Rattle.graph.proofs.Admit as admit
use Rattle.graph.proofs.admitted.Goals as goal

pub invariant_of-result : goal.invariant_of-result
invariant_of-result c = record { admitted = admit.admitted _ _ (sym c.in_ok-check_admission.ensures) }
