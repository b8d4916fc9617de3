-- `gate_count` meets its contract: the ANDs of the nodes passed are counted. From the laws on counting.
use Rattle.aiger_export.proofs.Placed.{Counted}
use Rattle.aiger_export.proofs.gates.gate_count.Given as goal
use Rattle.graph.specs.Tables.{lent_graph}

abbrev pub invariant-loop-v : goal.invariant-loop-v
invariant-loop-v l = Counted (lent_graph l.circuit.lent) 0 l.v l.count
