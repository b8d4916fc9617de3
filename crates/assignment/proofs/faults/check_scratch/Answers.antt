-- `check_scratch` meets its contract. From the laws on tests.
use mathlib.Core.Path.{refl}
use Rattle.graph.proofs.Tests.{less, no_less}
use Rattle.assignment.proofs.faults.check_scratch.Goals as goal

pub returns-then-words-nodes : goal.returns-then-words-nodes
returns-then-words-nodes c = less _ _ _ _ c.if-words-nodes.true refl

pub returns : goal.returns
returns c = no_less _ _ _ _ c.if-words-nodes.false refl
