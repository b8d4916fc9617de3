-- `search::search` meets its contract. The invariant: no assignment of the blocks passed gives the pattern. From the laws on searching.
use mathlib.Core.Path.{◌≡◌}
use Prim.Native.Nat.{◌*◌, ◌≤◌}
use lib.ListN.{length}
use Rattle.assignment.proofs.Searching.{NoneBelow}
use Rattle.assignment.proofs.search.search.Given as goal
use Rattle.graph.specs.Tables.{lent_graph}

abbrev pub invariant-loop-b : goal.invariant-loop-b
invariant-loop-b l =
    (l.b ≤ l.end) × (l.end ≤ 1024) × (length l.scratch ≡ length l.initial.scratch) × NoneBelow (lent_graph l.question.lent) l.question.wanted.now (64 * l.b)
