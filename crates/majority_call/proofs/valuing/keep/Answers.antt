-- `keep` meets its contract. From the law on four stores.
use Rattle.majority_call.proofs.Stacked.{stored_four}
use Rattle.majority_call.proofs.valuing.keep.Goals as goal

pub returns : goal.returns
returns c =
    stored_four _ _ _ _ _ _ _ _ _ _ c.store.ensures c.store-2.ensures c.store-3.ensures c.store-4.ensures
