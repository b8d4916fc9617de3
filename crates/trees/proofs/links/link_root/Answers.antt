-- `link_root` meets its contract. From the laws on stores.
use mathlib.Core.Path.{refl}
use Rattle.trees.proofs.LinkSteps.{root_stored}
use Rattle.trees.proofs.links.link_root.Goals as goal

pub returns : goal.returns
returns c = root_stored _ _ _ _ _ _ refl c.store.ensures c.store-2.ensures c.store-3.ensures
