-- The promise of crate compare, from its proof.
use Rattle.compare.specs.Promises.{Promises}
use Rattle.compare.proofs.Tells.{tells}

pub promises : Promises
promises = record { tells = tells }
