-- `xor_size` meets its contract, which is its sum.
use Rattle.aiger_export.specs.Inner.{xor_wide}
use native.Mathlib.Omega.{arith}
use Rattle.aiger_export.proofs.sizes.xor_size.Goals as goal

pub returns : goal.returns
unfolding xor_wide
returns c = (omega arith, omega arith)
