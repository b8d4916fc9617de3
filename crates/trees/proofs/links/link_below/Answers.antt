-- `link_below` meets its contract. From the laws on stores.
use Rattle.trees.proofs.LinkSteps.{below_stored}
use mathlib.Core.Path.{refl}
use Rattle.trees.proofs.links.link_below.Goals as goal

pub returns : goal.returns
returns c = below_stored _ _ _ _ _ _ _ _ _ _ _ _ _ _ c.requires.0 c.requires.2 c.read-h.ensures c.read-h.ensures refl refl refl c.store.ensures c.store-2.ensures c.store-3.ensures c.store-4.ensures c.store-5.ensures
