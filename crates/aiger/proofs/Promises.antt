-- The promises of crate aiger, each from its proof.
use Rattle.aiger.specs.Promises.{Promises}
use Rattle.aiger.proofs.RoundTrip.{back_again}
use Rattle.aiger.proofs.Trailing.{import_trailing}

pub promises : Promises
promises = record { back_again = back_again; import_trailing = import_trailing }
