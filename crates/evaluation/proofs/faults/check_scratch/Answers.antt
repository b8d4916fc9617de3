-- `check_scratch` meets its contract. From the laws on tests.
use Rattle.std.proofs.Common.{refl}
use Rattle.graph.proofs.Tests.{less, no_less}
use Rattle.evaluation.proofs.faults.check_scratch.Goals as goal

pub returns-then-scratch-nodes : goal.returns-then-scratch-nodes
returns-then-scratch-nodes c = less _ _ _ _ c.if-scratch-nodes.true refl

pub returns : goal.returns
returns c = no_less _ _ _ _ c.if-scratch-nodes.false refl
