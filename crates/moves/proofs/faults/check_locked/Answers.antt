-- `check_locked` meets its contract. From the laws on tests.
use Rattle.std.proofs.Common.{refl}
use Rattle.graph.proofs.Tests.{equal, unequal}
use Rattle.moves.proofs.faults.check_locked.Goals as goal

pub returns-then-lock-ne1 : goal.returns-then-lock-ne1
returns-then-lock-ne1 c = unequal _ _ _ _ c.if-lock-ne1.true refl

pub returns-then-m-eq0 : goal.returns-then-m-eq0
returns-then-m-eq0 c = equal _ _ _ _ c.if-lock-ne1.false (equal _ _ _ _ c.if-m-eq0.true refl)

pub returns : goal.returns
returns c = equal _ _ _ _ c.if-lock-ne1.false (unequal _ _ _ _ c.if-m-eq0.false refl)
