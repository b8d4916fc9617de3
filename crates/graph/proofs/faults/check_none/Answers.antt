-- `check_none` meets its contract. From the laws on tests.
use Rattle.std.proofs.Common.{refl, arith}
use Rattle.graph.proofs.Tests.{less, no_less}
use Rattle.graph.proofs.faults.check_none.Goals as goal

pub returns-then-count-gt0 : goal.returns-then-count-gt0
returns-then-count-gt0 c = less _ _ 5 0 c.if-count-gt0.true refl

pub returns : goal.returns
returns c = no_less _ _ 5 0 (omega arith) refl
