-- `fill_keys` meets its contract: the nodes of the tree passed have their costs. From the laws on the pass.
use Prim.Native.Nat.{◌-◌}
use Rattle.trees.proofs.Passes.{RisenTo}
use Rattle.resistive_call.proofs.KeyPass.{KeyRight}
use Rattle.resistive_call.proofs.keys.fill_keys.Given as goal
use Rattle.graph.specs.Tables.{lent_graph}

abbrev pub invariant-loop-v : goal.invariant-loop-v
invariant-loop-v l = RisenTo (lent_graph l.lent) (KeyRight (lent_graph l.lent) l.lent.locks.now) l.initial.scratch l.scratch l.root l.v

abbrev pub decreases-loop-v : goal.decreases-loop-v
decreases-loop-v l = l.root - l.v
