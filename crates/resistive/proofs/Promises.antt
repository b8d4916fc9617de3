-- The promises of crate resistive, each from its proof.
use Rattle.resistive.specs.Promises.{Promises}
use Rattle.resistive.proofs.Meaning.{most_single, no_others}
use Rattle.resistive.proofs.Still.{still_first}
use Rattle.resistive.proofs.Worked.{worked}

pub promises : Promises
promises = record { most_single = most_single; still_first = still_first; no_others = no_others; worked = worked }
