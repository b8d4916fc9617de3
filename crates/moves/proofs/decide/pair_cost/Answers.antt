-- `pair_cost` meets its contract. From the laws on costs.
use Rattle.std.proofs.Common.{◌+◌, ◌<◌, get_or, ap, ◌∙◌, arith}
use Rattle.moves.specs.Decide.{given}
use Rattle.moves.proofs.Deciding.{given_counted, pair_is}
use Rattle.moves.proofs.Moves.{moves_row}
use Rattle.moves.proofs.decide.pair_cost.Goals as goal
use Rattle.moves.proofs.decide.pair_cost.Goals.{After-move_cost-second}

-- the whole sum is far below the type's end

low_sum : (c : After-move_cost-second)
    → let z = c.given_costs-turned.result in c.move_cost-first.result + c.move_cost-second.result + (get_or z 1 0 + get_or z 3 0 + get_or z 5 0) < 1000000
low_sum c =
    let b = (given_counted _ _ _ _ _ _ c.given_costs-turned.ensures c.requires.0.node.numbers).bits in
    omega (arith, b 1, b 3, b 5, c.move_cost-first.ensures.1, c.move_cost-second.ensures.1, c.requires.0.named.numbers.few, c.requires.0.node.numbers.few)

pub move_cost-first-requires : goal.move_cost-first-requires
move_cost-first-requires c = let n = c.requires.0.named in (n.numbers, moves_row _ _ _ n.has c.requires.1)

pub flag_of-f-requires : goal.flag_of-f-requires
flag_of-f-requires c = (moves_row _ _ _ c.requires.0.named.has c.requires.1, omega arith)

pub move_cost-second-requires : goal.move_cost-second-requires
move_cost-second-requires c =
    (given_counted _ _ _ _ _ _ c.given_costs-turned.ensures c.requires.0.node.numbers, moves_row _ _ _ c.requires.0.node.has c.requires.2)

pub overflow_add-result : goal.overflow_add-result
overflow_add-result c = omega (arith, low_sum (goal.at.overflow_add-result c).After-move_cost-second)

pub overflow_add-result-2 : goal.overflow_add-result-2
overflow_add-result-2 c = omega (arith, low_sum (goal.at.overflow_add-result-2 c).After-move_cost-second)

pub overflow_add-result-3 : goal.overflow_add-result-3
overflow_add-result-3 c = omega (arith, low_sum (goal.at.overflow_add-result-3 c).After-move_cost-second)

pub overflow_add-result-4 : goal.overflow_add-result-4
overflow_add-result-4 c = omega (arith, low_sum (goal.at.overflow_add-result-4 c).After-move_cost-second)

pub returns : goal.returns
returns c =
    let a = c.args in
    pair_is a.pair.named a.pair.node a.pair.which a.a a.k _ _ _ (c.given_costs-turned.ensures ∙ ap (given a.pair.node.costs a.pair.which) c.flag_of-f.ensures.0)
    c.move_cost-first.ensures.0 c.move_cost-second.ensures.0
