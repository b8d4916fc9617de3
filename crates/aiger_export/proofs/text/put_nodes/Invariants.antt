-- `put_nodes` meets its contract: the nodes that are left come to the whole. From the laws on parts in a row.
use Prim.Native.Nat.{◌-◌}
use Rattle.tagged_file.proofs.Emitted.{Left}
use Rattle.aiger_export.specs.Inner.{node_lines}
use Rattle.aiger_export.proofs.text.put_nodes.Given as goal
use Rattle.graph.specs.Tables.{lent_graph}

abbrev pub invariant-loop-v : goal.invariant-loop-v
invariant-loop-v l =
    Left (node_lines (lent_graph l.circuit.lent)) l.circuit.lent.nodes l.start l.initial.buffer l.buffer l.at l.v (l.circuit.lent.nodes - l.v)
