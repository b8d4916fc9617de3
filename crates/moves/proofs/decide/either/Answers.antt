-- `either` meets its contract. From the laws on tests.
use Rattle.std.proofs.Common.{refl}
use Rattle.graph.proofs.Tests.{equal, unequal}
use Rattle.moves.proofs.decide.either.Goals as goal

pub returns-then-f-eq0 : goal.returns-then-f-eq0
returns-then-f-eq0 c = equal _ _ _ _ c.if-f-eq0.true refl

pub returns : goal.returns
returns c = unequal _ _ _ _ c.if-f-eq0.false refl
