-- `reached` meets its contract. From the laws on tests.
use mathlib.Core.Path.{refl}
use native.Mathlib.Omega.{arith}
use Rattle.graph.proofs.Tests.{less, no_less}
use Rattle.aiger_export.proofs.steps.reached.Goals as goal

pub returns-then-index-step : goal.returns-then-index-step
returns-then-index-step c = (less _ _ _ _ c.if-index-step.true refl, omega arith)

pub returns : goal.returns
returns c = (no_less _ _ _ _ c.if-index-step.false refl, omega arith)
