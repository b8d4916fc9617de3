-- `try_thirds` meets its contract: what is left to be tried gives the same. From the laws on trials.
use Prim.Native.Nat.{suc, ◌≤◌, ◌<◌}
use lib.ListN.{take}
use Rattle.hidden.specs.Inner.{left₃}
use Rattle.finder.proofs.Trials.{Going}
use Rattle.finder.proofs.trying.try_thirds.Given as goal
use Rattle.finder.specs.Nodes.{nodes_in}

abbrev pub invariant-loop-c : goal.invariant-loop-c
invariant-loop-c l =
    let near = take l.m l.list in
    (l.b < l.c) × (l.c ≤ l.m) × Going (nodes_in l.graph) l.v (left₃ near l.a l.b (suc l.b)) (left₃ near l.a l.b l.c) l.initial.scratch l.scratch
