-- `put_nodes` stores the nodes' fields one after another: those that are left come to the whole. From the laws on fields in a row.
use Prim.Native.Nat.{◌-◌}
use Rattle.tagged_file.specs.Write.{node_field_at}
use Rattle.tagged_file.proofs.Emitted.{Left}
use Rattle.tagged_file.proofs.emit.put_nodes.Given as goal
use Rattle.graph.specs.Tables.{lent_table}

abbrev pub invariant-loop-v : goal.invariant-loop-v
invariant-loop-v l = Left (node_field_at (lent_table l.node_table)) l.nodes l.start l.initial.buffer l.buffer l.at l.v (l.nodes - l.v)
