-- `wide_by` meets its contract, which is its sum.
use native.Mathlib.Omega.{arith}
use Rattle.aiger_export.specs.Inner.{wide_by}
use Rattle.aiger_export.proofs.steps.wide_by.Goals as goal

pub returns : goal.returns
unfolding wide_by
returns c = (omega arith, omega arith)
