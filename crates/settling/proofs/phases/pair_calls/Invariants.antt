-- `pair_calls` makes the pair calls at each node.
use Rattle.rounds.specs.Round.{pairs_at}
use Rattle.settling.proofs.phases.pair_calls.Given as goal

abbrev pub ghost-at_each : goal.ghost-at_each
ghost-at_each a = record { made = pairs_at a.lent.now.locks.now; most = 3 }
