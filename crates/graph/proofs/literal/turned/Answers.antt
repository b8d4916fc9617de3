-- `turned` meets its contract. Assumes nothing.
use Rattle.std.proofs.Common.{arith}
use Rattle.graph.specs.Graph.{turn}
use Rattle.graph.proofs.literal.turned.Goals as goal

pub returns : goal.returns
unfolding turn
returns c = omega arith
