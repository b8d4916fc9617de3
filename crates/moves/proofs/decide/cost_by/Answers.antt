-- `cost_by` meets its contract. From the laws on rows and costs.
use Rattle.std.proofs.Common.{◌+◌, ◌<◌, get_or, arith}
use Rattle.moves.proofs.Deciding.{either_le, by_le, cost_is}
use Rattle.moves.proofs.decide.cost_by.Goals as goal
use Rattle.moves.proofs.decide.cost_by.Goals.{After-either-shown}

-- the whole sum is far below the type's end

low_sum : (c : After-either-shown)
    → let z = c.args.w.costs in
    get_or z c.flag_of-a.result 0 + get_or z (2 + c.flag_of.result) 0 + get_or z (4 + c.flag_of-2.result) 0 + c.either-shown.result
    < 3000000
low_sum c =
    let n = c.requires.0 in
    omega (
      arith,
      n.still,
      n.turned,
      n.bits c.flag_of-a.result,
      n.bits (2 + c.flag_of.result),
      n.bits (4 + c.flag_of-2.result),
      c.either-shown.ensures,
      either_le c.flag_of-3.result c.args.w.still c.args.w.turned,
    )

pub overflow_add-result-3 : goal.overflow_add-result-3
overflow_add-result-3 c = omega (arith, low_sum (goal.at.overflow_add-result-3 c).After-either-shown)

pub returns : goal.returns
returns c =
    let e =
    cost_is c.args.xor c.args.w.costs c.args.w.still c.args.w.turned c.args.m _ _ _ _ _ c.flag_of-a.ensures.0
    c.flag_of.ensures.0 c.flag_of-2.ensures.0 c.flag_of-3.ensures.0 c.either-shown.ensures in
    (e, omega (arith, e, by_le c.args.xor c.args.w.costs c.args.w.still c.args.w.turned c.args.m c.requires.0.bits))
