-- `stored_bit` meets its contract. From the laws on tests.
use mathlib.Core.Path.{refl}
use Rattle.graph.proofs.Tests.{equal, unequal}
use native.Mathlib.Omega.{arith}
use Rattle.trees.proofs.costs.stored_bit.Goals as goal

pub returns-then-b-eq0 : goal.returns-then-b-eq0
returns-then-b-eq0 c = equal _ _ _ _ (omega arith) refl

pub returns : goal.returns
returns c = unequal _ _ _ _ (omega arith) refl
