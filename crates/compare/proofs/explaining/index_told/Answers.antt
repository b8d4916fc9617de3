-- `index_told` meets its contract: the node table, then the output table. From the laws on tests.
use mathlib.Core.Path.{refl}
use Rattle.graph.proofs.Tests.{less, no_less}
use Rattle.compare.proofs.explaining.index_told.Goals as goal

pub returns-then-place-end : goal.returns-then-place-end
returns-then-place-end c = less _ _ _ _ c.if-place-end.true refl

pub returns : goal.returns
returns c = no_less _ _ _ _ c.if-place-end.false refl
