-- `mark_bit` meets its contract. From the laws on tests.
use Rattle.std.proofs.Common.{refl, arith}
use Rattle.graph.proofs.Tests.{equal, unequal}
use Rattle.graph.proofs.faults.mark_bit.Goals as goal

pub returns-then-x-eq-MARK : goal.returns-then-x-eq-MARK
returns-then-x-eq-MARK c = (equal _ _ _ 0 c.if-x-eq-MARK.true refl, omega arith)

pub returns : goal.returns
returns c = (unequal _ _ _ 0 c.if-x-eq-MARK.false refl, omega arith)
