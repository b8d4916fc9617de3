-- `copy_indices` meets its contract. The invariant: the places so far are copied. From the laws of a sweep.
use Rattle.std.proofs.Common.{◌≡◌, ◌≤◌, get_or}
use Rattle.graph.proofs.Sweep.{swept}
use Rattle.graph.proofs.table.copy_indices.Given as goal

abbrev pub invariant-loop-j : goal.invariant-loop-j
invariant-loop-j l = (l.j ≤ l.n) × (l.to ≡ swept (λ i. get_or l.table i 0) l.initial.to l.j)
