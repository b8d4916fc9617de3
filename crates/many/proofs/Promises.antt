-- The promise of crate many, from its proof.
use Rattle.many.specs.Promises.{Promises}
use Rattle.many.proofs.EveryOrder.{every_order}

pub promises : Promises
promises = record { every_order = every_order }
