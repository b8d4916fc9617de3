-- `count_names` meets its contract: the words passed are tallied. From the laws on tallies.
use Rattle.std.proofs.Common.{◌≤◌}
use Rattle.moves.specs.Decide.{Tallied}
use Rattle.moves.proofs.reading.count_names.Given as goal
use Rattle.graph.specs.Tables.{lent_table}

abbrev pub invariant-loop-j : goal.invariant-loop-j
invariant-loop-j l = (l.j ≤ l.n) × Tallied (lent_table l.table) l.j l.u l.t.count l.t.odd
