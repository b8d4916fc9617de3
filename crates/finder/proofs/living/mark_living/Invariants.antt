-- `mark_living` meets its contract: after the last visit the marks are the definition's. From the laws on marks.
use mathlib.Core.Path.{◌≡◌}
use Prim.Native.Nat.{◌≤◌}
use lib.ListN.{length}
use Rattle.finder.specs.Living.{Living}
use Rattle.finder.proofs.living.mark_living.Given as goal
use Rattle.graph.specs.Tables.{lent_graph}

abbrev pub invariant-loop-v : goal.invariant-loop-v
invariant-loop-v l =
    (l.v ≤ l.lent.nodes) × (length l.scratch ≡ length l.initial.scratch) × Living (lent_graph l.lent) l.lent.locks.now l.v l.lent.outputs l.scratch

abbrev pub decreases-loop-v : goal.decreases-loop-v
decreases-loop-v l = l.v
