-- `only_place` meets its contract. From the laws on tests.
use mathlib.Core.Path.{refl}
use Rattle.trees.specs.Filling.{only_place}
use Rattle.graph.proofs.Tests.{equal, unequal}
use native.Mathlib.Omega.{arith}
use Rattle.trees.proofs.fill.only_place.Goals as goal

pub returns-then-in_nodes-ne1 : goal.returns-then-in_nodes-ne1
unfolding only_place
returns-then-in_nodes-ne1 c = unequal _ _ _ _ (omega arith) refl

pub returns-then-in_outputs-ne0 : goal.returns-then-in_outputs-ne0
unfolding only_place
returns-then-in_outputs-ne0 c = equal _ _ _ _ (omega arith) (unequal _ _ _ _ (omega arith) refl)

pub returns : goal.returns
unfolding only_place
returns c = equal _ _ _ _ (omega arith) (equal _ _ _ _ (omega arith) refl)
