-- `insert` meets its contract: what is left to be inserted gives the same list. From the laws on insertion.
use mathlib.Core.Path.{◌≡◌}
use mathlib.Core.List.{◌++◌}
use Prim.Native.Nat.{◌≤◌}
use lib.ListN.{take, length-set}
use lib.ListN as ln
use lib.Seq.{slice}
use Rattle.finder.specs.Nearness.{insert_to}
use Rattle.finder.proofs.nearness.insert.Given as goal

abbrev pub invariant-loop-k : goal.invariant-loop-k
invariant-loop-k l =
    (l.k ≤ l.n) × (ln.length l.list ≡ ln.length l.initial.list) × (take l.k l.list ++ insert_to l.carried (slice l.k l.n l.list) ≡ insert_to l.index (take l.n l.initial.list))
