-- `check_inputs` meets its contract. From the laws on tests.
use mathlib.Core.Path.{refl}
use Rattle.graph.proofs.Tests.{less, no_less}
use Rattle.assignment.proofs.faults.check_inputs.Goals as goal

pub returns-then-inputs-gt16 : goal.returns-then-inputs-gt16
returns-then-inputs-gt16 c = less _ _ _ _ c.if-inputs-gt16.true refl

pub returns : goal.returns
returns c = no_less _ _ _ _ c.if-inputs-gt16.false refl
