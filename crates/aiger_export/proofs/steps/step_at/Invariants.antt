-- `step_at` meets its contract: no node passed has reached the index yet. From the laws on steps.
use Prim.Native.Nat.{◌<◌}
use Rattle.aiger_export.proofs.Placed.{Counted}
use Rattle.aiger_export.proofs.steps.step_at.Given as goal
use Rattle.graph.specs.Tables.{lent_graph}

abbrev pub invariant-loop-v : goal.invariant-loop-v
invariant-loop-v l = Counted (lent_graph l.circuit.lent) l.circuit.lent.inputs l.v l.last × (l.last < l.half)
