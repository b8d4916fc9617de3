-- `try_triples` meets its contract: what is left to be tried gives the same. From the laws on trials.
use Prim.Native.Nat.{◌≤◌}
use lib.ListN.{take}
use Rattle.hidden.specs.Find.{triples}
use Rattle.hidden.specs.Inner.{left₁}
use Rattle.finder.proofs.Trials.{Going}
use Rattle.finder.proofs.trying.try_triples.Given as goal
use Rattle.finder.specs.Nodes.{nodes_in}

abbrev pub invariant-loop-a : goal.invariant-loop-a
invariant-loop-a l =
    let near = take l.m l.list in
    (l.a ≤ l.m) × Going (nodes_in l.graph) l.v (triples near) (left₁ near l.a) l.initial.scratch l.scratch
