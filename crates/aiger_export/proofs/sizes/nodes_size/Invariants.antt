-- `nodes_size` meets its contract: the lengths of the nodes' lines are added up, and the ANDs counted. From the laws on lengths
-- in a row and on counting.
use Prim.Native.Nat.{◌+◌}
use Rattle.aiger_export.specs.Inner.{node_lines}
use Rattle.aiger_export.proofs.Placed.{Counted}
use Rattle.aiger_export.proofs.Summed.{Summed}
use Rattle.aiger_export.proofs.sizes.nodes_size.Given as goal
use Rattle.graph.specs.Tables.{lent_graph}

abbrev pub invariant-loop-v : goal.invariant-loop-v
invariant-loop-v l =
    Summed (node_lines (lent_graph l.circuit.lent)) l.circuit.lent.nodes l.size l.v
    × Counted (lent_graph l.circuit.lent) (l.circuit.lent.inputs + 1) l.v l.b
