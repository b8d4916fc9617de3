-- `tree_calls` makes the tree call at each root.
use Rattle.rounds.specs.Round.{tree_at}
use Rattle.settling.proofs.phases.tree_calls.Given as goal

abbrev pub ghost-at_each : goal.ghost-at_each
ghost-at_each a = record { made = tree_at a.lent.now.locks.now; most = 1 }
