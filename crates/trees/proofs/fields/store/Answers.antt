-- `store` meets its contract. From the laws on `set`.
use Rattle.trees.proofs.Stores.{set_stored}
use Rattle.trees.proofs.fields.store.Goals as goal

pub returns : goal.returns
returns c = set_stored _ _ _ _ c.requires.2
