-- `all_rounds` makes rounds until one does not lower C: what is left after each is the rest of settling.
use mathlib.Core.Path.{◌≡◌}
use Rattle.settling.proofs.Repeating.{Going}
use Rattle.settling.proofs.all.all_rounds.Given as goal
use Rattle.graph.specs.Tables.{lent_graph}

abbrev pub invariant-loop-after : goal.invariant-loop-after
invariant-loop-after l =
    (l.after ≡ l.tally.count) × Going l.lent.locks.now (lent_graph l.lent) l.initial.scratch l.scratch l.rounds l.before l.tally

abbrev pub decreases-loop-after : goal.decreases-loop-after
decreases-loop-after l = l.before
