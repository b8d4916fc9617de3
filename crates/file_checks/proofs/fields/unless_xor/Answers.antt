-- `unless_xor` meets its contract. From the laws on tests.
use mathlib.Core.Path.{refl}
use Rattle.graph.proofs.Tests.{equal, unequal}
use Rattle.file_checks.proofs.fields.unless_xor.Goals as goal

pub returns-then-tag-eq3 : goal.returns-then-tag-eq3
returns-then-tag-eq3 c = equal _ _ _ _ c.if-tag-eq3.true refl

pub returns : goal.returns
returns c = unequal _ _ _ _ c.if-tag-eq3.false refl
