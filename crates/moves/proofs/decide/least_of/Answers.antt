-- `least_of` meets its contract: a locked node has no move but one, and else either kind has its own.
use Rattle.std.proofs.Common.{arith}
use Rattle.moves.specs.Rows.{arity}
use Rattle.moves.proofs.Deciding.{arity_low}
use Rattle.moves.proofs.Moves.{moves_all}
use Rattle.moves.proofs.decide.least_of.Goals as goal

pub cost_by-requires : goal.cost_by-requires
cost_by-requires c = (c.requires.0, omega (arith, arity_low c.args.xor))

pub returns-then-moves-eq1 : goal.returns-then-moves-eq1
returns-then-moves-eq1 c = rw c.if-moves-eq1.true (c.no_move.ensures _ c.cost_by.ensures.0)

pub returns-then-xor : goal.returns-then-xor
unfolding arity
returns-then-xor c =
    let a = c.args in
    rw (moves_all a.xor a.moves c.requires.1 c.if-moves-eq1.false, c.if-xor.true) c.least_of_xor.ensures

pub returns : goal.returns
unfolding arity
returns c =
    let a = c.args in
    rw (moves_all a.xor a.moves c.requires.1 c.if-moves-eq1.false, c.if-xor.false) c.least_of_majority.ensures
