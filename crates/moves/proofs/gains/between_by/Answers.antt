-- `between_by` meets its contract: each word adds at most 1. From the bounds on a node's numbers.
use Rattle.std.proofs.Common.{ℕ, ◌+◌, ◌≤◌, get_or, arith}
use Rattle.graph.specs.Finite.{if_equal}
use Rattle.moves.specs.Outside.{between_by}
use Rattle.moves.proofs.Deciding.{either_le}
use Rattle.moves.proofs.gains.between_by.Goals as goal
use Rattle.moves.proofs.gains.between_by.Goals.{Start}

bit : (s : Start) (i k : ℕ) → if_equal (get_or s.args.which i 0) 0 0 (get_or s.args.node.costs k 0) ≤ 1
bit s i k = omega (arith, either_le (get_or s.args.which i 0) 0 (get_or s.args.node.costs k 0), s.requires.0.numbers.bits k)

pub overflow_add-result : goal.overflow_add-result
overflow_add-result c =
    let f = c.args.f in
    omega (arith, bit (goal.at.overflow_add-result c).Start 0 f, bit (goal.at.overflow_add-result c).Start 1 (2 + f), c.either-a.ensures, c.either-b.ensures)

pub overflow_add-result-2 : goal.overflow_add-result-2
overflow_add-result-2 c =
    let f = c.args.f in
    omega (arith, bit (goal.at.overflow_add-result-2 c).Start 0 f, bit (goal.at.overflow_add-result-2 c).Start 1 (2 + f), bit (goal.at.overflow_add-result-2 c).Start 2 (4 + f), c.either-a.ensures, c.either-b.ensures, c.either-c.ensures)

pub returns : goal.returns
unfolding between_by
returns c =
    let f = c.args.f in (
      omega (arith, c.either-a.ensures, c.either-b.ensures, c.either-c.ensures),
      omega (arith, bit (goal.at.returns c).Start 0 f, bit (goal.at.returns c).Start 1 (2 + f), bit (goal.at.returns c).Start 2 (4 + f), c.either-a.ensures, c.either-b.ensures, c.either-c.ensures),
    )
