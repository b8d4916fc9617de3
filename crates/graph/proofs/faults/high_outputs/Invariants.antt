-- `high_outputs` meets its contract: the sum over the outputs passed. From the definition of a sum.
use Rattle.std.proofs.Common.{◌≡◌, ◌+◌, ◌≤◌}
use Rattle.graph.specs.Finite.{sum}
use Rattle.graph.specs.Inner.{over_at}
use Rattle.graph.proofs.faults.high_outputs.Given as goal

abbrev pub invariant-loop-j : goal.invariant-loop-j
invariant-loop-j l = (l.j ≤ l.outputs) × (l.c ≤ l.j) × (l.c ≡ sum l.j (over_at (l.last + 1) l.output_table))
