-- `first_of_majority` meets its contract: its two moves, one after the other.
use Rattle.resistive_call.proofs.Families.{arity_false}
use native.Mathlib.Omega.{arith}
use Rattle.resistive_call.proofs.family.first_of_majority.Goals as goal

pub score-requires : goal.score-requires
score-requires c = (c.requires, arity_false _ (omega arith))

pub score-requires-2 : goal.score-requires-2
score-requires-2 c = (c.requires, arity_false _ (omega arith))

pub returns : goal.returns
returns c = (c.or_move-least.ensures _ (c.no_move-least.ensures _ c.score.ensures) c.score-2.ensures).found
