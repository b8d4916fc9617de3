-- `spread` meets its contract: of the words that have been looked at so many are apart, so that three that meet them all have as many of the places seen. From
-- the laws on ways.
use Prim.Native.Nat.{◌≤◌}
use Rattle.finder.specs.Meeting.{AtLeast}
use Rattle.finder.proofs.masks.spread.Given as goal

abbrev pub invariant-loop-k : goal.invariant-loop-k
invariant-loop-k l = (l.k ≤ l.n) × (l.apart ≤ 3) × AtLeast l.apart l.seen l.allowed l.k l.ways
