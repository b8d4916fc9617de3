-- `node_payload` meets its contract. From the laws on tests.
use mathlib.Core.Path.{refl}
use Rattle.graph.proofs.Tests.{equal, unequal}
use Rattle.tagged_file.proofs.emit.node_payload.Goals as goal

pub returns-then-z-eq-MARK : goal.returns-then-z-eq-MARK
returns-then-z-eq-MARK c = equal _ _ _ _ c.if-z-eq-MARK.true refl

pub returns : goal.returns
returns c = unequal _ _ _ _ c.if-z-eq-MARK.false refl
