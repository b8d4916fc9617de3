-- `above` meets its contract. From the laws on tests.
use Rattle.std.proofs.Common.{refl, arith}
use Rattle.graph.proofs.Tests.{less, no_less}
use Rattle.graph.proofs.faults.above.Goals as goal

pub returns-then-x-last : goal.returns-then-x-last
returns-then-x-last c = (less _ _ 0 1 (omega arith) refl, omega arith)

pub returns : goal.returns
returns c = (no_less _ _ 0 1 (omega arith) refl, omega arith)
