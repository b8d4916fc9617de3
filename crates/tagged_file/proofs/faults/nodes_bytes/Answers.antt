-- `nodes_bytes` adds up the lengths of the nodes' fields. From the laws on fields in a row.
use native.Mathlib.Omega.{arith}
use Prim.Native.Nat.{◌+◌, ◌*◌}
use lib.ListN.{get_or}
use Rattle.tagged_file.proofs.WholeWrite.{size_start, size_more, size_none}
use Rattle.tagged_file.specs.Write.{node_field_at}
use Rattle.tagged_file.proofs.faults.nodes_bytes.Goals as goal
use Rattle.graph.specs.Tables.{lent_table}

pub loop-v-init : goal.loop-v-init
loop-v-init c = (size_start (node_field_at (lent_table c.args.node_table.now)) c.args.nodes, omega arith)

pub node_bytes-size-requires : goal.node_bytes-size-requires
node_bytes-size-requires c =
    let r = c.requires c.loop-v.v (omega arith) in
    (r.there, r.third)

pub loop-v-preserved : goal.loop-v-preserved
unfolding node_field_at
loop-v-preserved c =
    let l = c.loop-v in
    let ns = lent_table c.args.node_table.now in
    let e = c.node_bytes-size.ensures.0 (get_or ns (3 * l.v) 0) (get_or ns (3 * l.v + 1) 0) in
    (size_more _ _ l.size _ l.v _ (omega arith) l.invariant.0 (omega (arith, e)), omega arith)

pub returns : goal.returns
returns c = let l = c.loop-v in (size_none _ _ l.size l.v _ (omega arith) l.invariant.0, omega arith)
