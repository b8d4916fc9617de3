-- `mark_outputs` meets its contract: the outputs passed are marked. From the laws on marks.
use mathlib.Core.Path.{◌≡◌}
use Prim.Native.Nat.{◌≤◌}
use lib.ListN.{length}
use Rattle.finder.specs.Living.{Living}
use Rattle.finder.proofs.living.mark_outputs.Given as goal
use Rattle.graph.specs.Tables.{lent_graph}

abbrev pub invariant-loop-j : goal.invariant-loop-j
invariant-loop-j l =
    (l.j ≤ l.lent.outputs) × (length l.scratch ≡ length l.initial.scratch) × Living (lent_graph l.lent) l.lent.locks.now l.lent.nodes l.j l.scratch
