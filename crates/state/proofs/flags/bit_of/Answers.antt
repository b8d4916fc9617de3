-- `bit_of` meets its contract. Assumes nothing.
use mathlib.Core.Path.{refl}
use native.Mathlib.Omega.{arith}
use Rattle.graph.specs.Literals.{bit}
use Rattle.state.proofs.flags.bit_of.Goals as goal

pub returns : goal.returns
unfolding bit
returns c = (refl, omega arith)
