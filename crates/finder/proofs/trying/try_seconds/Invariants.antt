-- `try_seconds` meets its contract: what is left to be tried gives the same. From the laws on trials.
use Prim.Native.Nat.{◌≤◌, ◌<◌}
use lib.ListN.{take}
use Rattle.hidden.specs.Inner.{left₁, left₂}
use Rattle.finder.proofs.Trials.{Going}
use Rattle.finder.proofs.trying.try_seconds.Given as goal
use Rattle.finder.specs.Nodes.{nodes_in}

abbrev pub invariant-loop-b : goal.invariant-loop-b
invariant-loop-b l =
    let near = take l.m l.list in
    (l.a < l.b) × (l.b ≤ l.m) × Going (nodes_in l.graph) l.v (left₁ near l.a) (left₂ near l.a l.b) l.initial.scratch l.scratch
