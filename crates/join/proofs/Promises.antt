-- The promises of crate join, each from its proof.
use Rattle.join.specs.Promises.{Promises}
use Rattle.join.proofs.Accepted.{joined_values}
use Rattle.join.proofs.Worked.{inverters, adder, refusals}

pub promises : Promises
promises = record { joined_values = joined_values; inverters = inverters; adder = adder; refusals = refusals }
