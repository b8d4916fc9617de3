-- `nodes_bytes` adds up the lengths of the nodes' fields. From the laws on fields in a row.
use mathlib.Core.Path.{◌≡◌}
use Prim.Native.Nat.{◌+◌, ◌-◌, ◌*◌, ◌≤◌}
use lib.ListN.{length}
use Rattle.tagged_file.specs.Write.{node_field_at, in_order}
use Rattle.tagged_file.proofs.faults.nodes_bytes.Given as goal
use Rattle.graph.specs.Tables.{lent_table}

abbrev pub invariant-loop-v : goal.invariant-loop-v
invariant-loop-v l =
    (l.size + length (in_order (node_field_at (lent_table l.node_table)) l.v (l.nodes - l.v)) ≡ length (in_order (node_field_at (lent_table l.node_table)) 0 l.nodes)) × (l.size ≤ 15 * l.v)
