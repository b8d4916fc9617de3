-- `least_of_majority` meets its contract: its two moves, one after the other.
use Rattle.std.proofs.Common.{arith}
use Rattle.moves.specs.Rows.{arity}
use Rattle.moves.proofs.decide.least_of_majority.Goals as goal

pub cost_by-requires : goal.cost_by-requires
unfolding arity
cost_by-requires c = (c.requires, omega arith)

pub cost_by-requires-2 : goal.cost_by-requires-2
unfolding arity
cost_by-requires-2 c = (c.requires, omega arith)

pub returns : goal.returns
returns c = c.or_move.ensures _ (c.no_move-least.ensures _ c.cost_by.ensures.0) c.cost_by-2.ensures.0
