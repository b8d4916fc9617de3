-- The promise of crate evaluation, from its proof.
use Rattle.evaluation.specs.Promises.{Promises}
use Rattle.evaluation.proofs.Call.{result_bit}

pub promises : Promises
promises = record { result_bit = result_bit }
