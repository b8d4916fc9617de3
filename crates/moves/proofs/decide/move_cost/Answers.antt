-- `move_cost` meets its contract. From the laws on costs.
use Rattle.std.proofs.Common.{arith}
use Rattle.moves.specs.Decide.{cost_with}
use Rattle.moves.proofs.decide.move_cost.Goals as goal

pub returns : goal.returns
unfolding cost_with
returns c = (c.cost_by.ensures.0, omega (arith, c.cost_by.ensures.1, c.requires.0.some))
