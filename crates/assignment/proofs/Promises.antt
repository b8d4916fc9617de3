-- The promises of crate assignment, each from its proof.
use Rattle.assignment.specs.Promises.{Promises}
use Rattle.assignment.proofs.LeastOf.{least_of}
use Rattle.assignment.proofs.Worked.{worked}

pub promises : Promises
promises = record { least_of = least_of; worked = worked }
