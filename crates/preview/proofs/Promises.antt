-- The promises of crate preview, each from its proof.
use Rattle.preview.specs.Promises.{Promises}
use Rattle.preview.proofs.SameCall.{as_tree_call}
use Rattle.preview.proofs.AsList.{as_list}

pub promises : Promises
promises = record { as_tree_call = as_tree_call; as_list = as_list }
