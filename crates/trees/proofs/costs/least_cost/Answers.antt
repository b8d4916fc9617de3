-- `least_cost` meets its contract. From the bound of a move's cost.
use native.Mathlib.Omega.{arith}
use Rattle.moves.proofs.Deciding.{cost_le}
use Rattle.trees.proofs.costs.least_cost.Goals as goal

pub returns : goal.returns
returns c =
    let l = c.least_move-least in
    record {
      move = l.result.number;
      least = l.ensures.found;
      cost = l.ensures.cost;
      low = omega (arith, l.ensures.cost, cost_le c.args.xor c.args.z 1 c.args.s l.result.number c.requires.0);
    }
