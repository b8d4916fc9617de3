-- `size_apart` meets its contract. From the laws on tests.
use Rattle.std.proofs.Common.{refl}
use Rattle.graph.proofs.Tests.{equal, unequal}
use Rattle.compare.specs.Compare.{size_apart}
use Rattle.compare.proofs.indices.size_apart.Goals as goal

pub returns-then-first-second : goal.returns-then-first-second
unfolding size_apart
returns-then-first-second c = unequal _ _ _ _ c.if-first-second.true refl

pub returns-then-first-second-2 : goal.returns-then-first-second-2
unfolding size_apart
returns-then-first-second-2 c = equal _ _ _ _ c.if-first-second.false (unequal _ _ _ _ c.if-first-second-2.true refl)

pub returns-then-first-second-3 : goal.returns-then-first-second-3
unfolding size_apart
returns-then-first-second-3 c = equal _ _ _ _ c.if-first-second.false (equal _ _ _ _ c.if-first-second-2.false (unequal _ _ _ _ c.if-first-second-3.true refl))

pub returns : goal.returns
unfolding size_apart
returns c = equal _ _ _ _ c.if-first-second.false (equal _ _ _ _ c.if-first-second-2.false (equal _ _ _ _ c.if-first-second-3.false refl))
