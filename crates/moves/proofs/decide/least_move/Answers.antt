-- `least_move` meets its contract. From the laws on costs.
use Rattle.moves.specs.Decide.{cost_with}
use Rattle.moves.proofs.decide.least_move.Goals as goal

pub returns : goal.returns
unfolding cost_with
returns c = c.least_of.ensures
