-- `put_file` stores the file's parts one after another. From the laws on the whole of writing.
use native.Mathlib.Omega.{arith}
use mathlib.Core.Path.{◌≡◌}
use Prim.Native.Nat.{◌+◌, ◌*◌}
use lib.ListN.{length}
use Rattle.tagged_file.specs.Write.{node_field_at, lock_field_at, in_order, file_of}
use Rattle.tagged_file.proofs.WholeWrite.{length_file, length_outputs, file_stored}
use Rattle.graph.proofs.Words.{readable, out_low}
use Rattle.tagged_file.proofs.emit.put_file.Goals as goal
use Rattle.tagged_file.proofs.emit.put_file.Goals.{Start}
use Rattle.graph.specs.Tables.{lent_graph, lent_table}

-- the file's length by its parts

long : (s : Start) → let a = s.args in length (file_of (lent_graph a.lent.now) a.lent.now.locks.now)
    ≡ 18 + length (in_order (node_field_at (lent_table a.lent.now.node_table)) 0 a.lent.now.nodes) + 7 * a.lent.now.outputs + length (in_order (lock_field_at (a.lent.now.inputs + 1) a.lent.now.locks.now) 0 a.lent.now.nodes)
long s = let a = s.args in length_file (lent_graph a.lent.now) a.lent.now.locks.now

-- the length of the buffer, the last of what is lent, fits

pub put_three-requires : goal.put_three-requires
put_three-requires c = omega (arith, long (goal.at.put_three-requires c).Start)

pub put_nodes-second-requires : goal.put_nodes-second-requires
put_nodes-second-requires c =
    (readable _ c.requires.0, omega (arith, long (goal.at.put_nodes-second-requires c).Start, c.requires.2))

pub put_outputs-third-requires : goal.put_outputs-third-requires
put_outputs-third-requires c =
    ((c.requires.0.held_outputs, out_low _ c.requires.0), omega (arith, c.requires.2, long (goal.at.put_outputs-third-requires c).Start, length_outputs (lent_table c.args.lent.now.output_table) 0 c.args.lent.now.outputs))

pub put_locks-end-requires : goal.put_locks-end-requires
put_locks-end-requires c =
    record { nodes_in_bounds = (c.requires.1, omega (arith, c.requires.0.few_inputs, c.requires.0.few_nodes)); nodes_in_bounds_2 = omega (arith, c.requires.2, long (goal.at.put_locks-end-requires c).Start, length_outputs (lent_table c.args.lent.now.output_table) 0 c.args.lent.now.outputs) }

pub put_head-requires : goal.put_head-requires
put_head-requires c =
    omega (arith, long (goal.at.put_head-requires c).Start, length_outputs (lent_table c.args.lent.now.output_table) 0 c.args.lent.now.outputs)

pub overflow_add-result : goal.overflow_add-result
overflow_add-result c =
    omega (arith, c.well_formed.1.0, long (goal.at.overflow_add-result c).Start, length_outputs (lent_table c.args.lent.now.output_table) 0 c.args.lent.now.outputs)

pub returns : goal.returns
returns c =
    let a = c.args in
    file_stored (lent_graph a.lent.now) a.lent.now.locks.now _ _ _ _ _ _ _ _ _
    c.put_three.ensures c.put_nodes-second.ensures c.put_outputs-third.ensures (c.put_locks-end.ensures.value, c.put_locks-end.ensures.buffer_after) c.put_head.ensures
