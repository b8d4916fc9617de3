-- What admission promises beside its definition.
use Rattle.std.specs.Prelude.{◌≡◌}
use Rattle.graph.specs.Words.{ℕ, List}
use Rattle.graph.specs.{Graph.Graph, Admission.admission_number, Admission.Admitted, Admission.LockBytes}

-- the number is 0 just where the graph and its locks are admitted
pub record JustAdmitted (g : Graph) (ls : List ℕ) : Type 0 where
  pub admitted : admission_number g ls ≡ 0 → Admitted g
  pub locks_admitted : admission_number g ls ≡ 0 → LockBytes g.N ls
  pub admission_none : Admitted g → LockBytes g.N ls → admission_number g ls ≡ 0

pub record Promises : Type 0 where
  pub just_admitted : (g : Graph) (ls : List ℕ) → JustAdmitted g ls
