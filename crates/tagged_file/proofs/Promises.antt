-- The promises of crate tagged_file, each from its proof.
use Rattle.tagged_file.specs.Promises.{Promises}
use Rattle.tagged_file.proofs.RoundTrip.{accepted_file, one_file, loads_written, without_locks}

pub promises : Promises
promises = record { accepted_file = accepted_file; one_file = one_file; loads_written = loads_written; without_locks = without_locks }
