-- `best_numbered` meets its contract. From the laws on combinations by number.
use Rattle.std.proofs.Common.{◌≤◌}
use Rattle.moves.specs.Pair.{GreatestBelow}
use Rattle.moves.proofs.decide.best_numbered.Given as goal

abbrev pub invariant-loop-c : goal.invariant-loop-c
invariant-loop-c l = (l.c ≤ l.all) × (l.all ≤ 16) × GreatestBelow l.pair.named l.pair.node l.pair.which l.c l.best
