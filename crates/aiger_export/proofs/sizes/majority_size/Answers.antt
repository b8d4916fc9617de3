-- `majority_size` meets its contract, which is its sum.
use Rattle.aiger_export.specs.Inner.{majority_wide}
use native.Mathlib.Omega.{arith}
use Rattle.aiger_export.proofs.sizes.majority_size.Goals as goal

pub returns : goal.returns
unfolding majority_wide
returns c = (omega arith, omega arith)
