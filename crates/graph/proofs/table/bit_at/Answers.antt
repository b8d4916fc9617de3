-- `bit_at` meets its contract. Assumes nothing.
use Rattle.std.proofs.Common.{refl, arith}
use Rattle.graph.specs.Literals.{bit, bit_at}
use Rattle.graph.proofs.table.bit_at.Goals as goal

pub returns : goal.returns
unfolding bit bit_at
returns c = (refl, omega arith)
