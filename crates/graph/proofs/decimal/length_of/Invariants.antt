-- `length_of` meets its contract: the digits passed and those of what is left are all digits. From the laws on digits.
use Rattle.std.proofs.Common.{◌≡◌, ◌+◌, ◌≤◌, length}
use Rattle.graph.specs.Finite.{decimal}
use Rattle.graph.proofs.decimal.length_of.Given as goal

abbrev pub invariant-loop-left : goal.invariant-loop-left
invariant-loop-left l = (l.k + length (decimal l.left) ≡ 1 + length (decimal l.n)) × (1 ≤ l.k)

abbrev pub decreases-loop-left : goal.decreases-loop-left
decreases-loop-left l = l.left
