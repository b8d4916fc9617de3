-- `answer_given` meets its contract. From the laws on costs.
use Rattle.std.proofs.Common.{◌+◌, ◌<◌, get_or, arith}
use Rattle.moves.proofs.Deciding.{given_counted, answered}
use Rattle.moves.proofs.decide.answer_given.Goals as goal
use Rattle.moves.proofs.decide.answer_given.Goals.{After-least_move-least}

-- the whole sum is far below the type's end

low_sum : (c : After-least_move-least) → let z = c.given_costs-z.result in c.least_move-least.result.cost + (get_or z 1 0 + get_or z 3 0 + get_or z 5 0) < 1000000
low_sum c =
    omega (arith, (answered c.args.node c.args.which c.given_costs-z.result c.args.f _ _ c.requires.0 c.given_costs-z.ensures c.least_move-least.ensures).low)

pub least_move-least-requires : goal.least_move-least-requires
least_move-least-requires c = let n = c.requires.0 in (given_counted _ _ _ _ _ _ c.given_costs-z.ensures n.numbers, n.has)

pub overflow_add-result : goal.overflow_add-result
overflow_add-result c = omega (arith, low_sum (goal.at.overflow_add-result c).After-least_move-least)

pub overflow_add-result-2 : goal.overflow_add-result-2
overflow_add-result-2 c = omega (arith, low_sum (goal.at.overflow_add-result-2 c).After-least_move-least)

pub overflow_add-result-3 : goal.overflow_add-result-3
overflow_add-result-3 c = omega (arith, low_sum (goal.at.overflow_add-result-3 c).After-least_move-least)

pub returns : goal.returns
returns c =
    answered c.args.node c.args.which c.given_costs-z.result c.args.f _ _ c.requires.0 c.given_costs-z.ensures c.least_move-least.ensures
