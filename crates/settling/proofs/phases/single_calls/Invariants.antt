-- `single_calls` makes the node call at each node.
use Rattle.rounds.specs.Round.{node_at}
use Rattle.settling.proofs.phases.single_calls.Given as goal

abbrev pub ghost-at_each : goal.ghost-at_each
ghost-at_each a = record { made = node_at a.lent.now.locks.now; most = 1 }
