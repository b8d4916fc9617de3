-- `count_after` meets its contract: a move that the node has is one of its kind's.
use Rattle.moves.proofs.Moves.{arity_pos, moves_row}
use Rattle.state.proofs.moving.count_after.Goals as goal

pub move_cost-before-requires : goal.move_cost-before-requires
move_cost-before-requires c = (c.requires.0.numbers, arity_pos _)

pub move_cost-after-requires : goal.move_cost-after-requires
move_cost-after-requires c = let p = c.requires in (p.0.numbers, moves_row _ _ _ p.0.has p.1)
