-- `put` meets its contract: its digits from the last to the first. From the laws on digits.
use Rattle.graph.proofs.Digits.{Left}
use Rattle.graph.proofs.decimal.put.Given as goal

abbrev pub invariant-loop-left : goal.invariant-loop-left
invariant-loop-left l = Left l.initial.buffer l.at l.n l.buffer l.k l.left

abbrev pub decreases-loop-left : goal.decreases-loop-left
decreases-loop-left l = l.left
