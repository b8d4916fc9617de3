-- The promise of crate graph, from its proof.
use Rattle.graph.specs.Promises.{Promises}
use Rattle.graph.proofs.Admit.{just_admitted}

pub promises : Promises
promises = record { just_admitted = just_admitted }
