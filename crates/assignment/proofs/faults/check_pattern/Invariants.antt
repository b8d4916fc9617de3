-- `check_pattern` meets its contract: no byte passed is above 2. From the laws on tests.
use Rattle.std.proofs.Common.{◌≡◌, ◌≤◌}
use Rattle.graph.specs.Finite.{first_of}
use Rattle.assignment.specs.Assignment.{wish_number}
use Rattle.assignment.proofs.faults.check_pattern.Given as goal

abbrev pub invariant-loop-want : goal.invariant-loop-want
invariant-loop-want l = (l.want-index ≤ l.outputs) × (first_of l.want-index (wish_number l.wanted) ≡ 0)
