-- `admit_graph` meets its contract. From the contract of `check_admission`.
use Rattle.std.proofs.Common.{refl}
use Rattle.graph.proofs.Answers.{answered}
use Rattle.graph.proofs.admit_graph.Goals as goal

pub returns : goal.returns
returns c = answered _ _ _ _ c.check_admission.ensures (λ x e. refl)
