-- The promises of crate rounds, each from its proof.
use Rattle.rounds.specs.Promises.{Promises}
use Rattle.rounds.proofs.Calls.{as_calls}
use Rattle.rounds.proofs.Free.{settle_free}
use Rattle.rounds.proofs.Worked.{settles}

pub promises : Promises
promises = record { as_calls = λ g ls s v adm ok l h. as_calls g adm ls ok s v l h; settle_free = settle_free; settles = settles }
