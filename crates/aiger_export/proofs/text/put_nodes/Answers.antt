-- `put_nodes` meets its contract: the nodes that are left come to the whole. From the laws on parts in a row.
use Rattle.tagged_file.proofs.Emitted.{left_start, left_room, left_next, left_none}
use native.Mathlib.Omega.{arith}
use Rattle.aiger_export.proofs.text.put_nodes.Goals as goal

pub loop-v-init : goal.loop-v-init
loop-v-init c = left_start _ _ _ _

pub put_node-at-requires : goal.put_node-at-requires
put_node-at-requires c =
    (c.requires.0, c.requires.1, omega arith, left_room _ _ _ _ _ _ _ _ c.loop-v.invariant (omega arith) c.requires.2)

pub loop-v-preserved : goal.loop-v-preserved
loop-v-preserved c =
    left_next _ _ _ _ _ _ _ c.loop-v.invariant c.loop-v-test.true _ _ c.put_node-at.ensures.1 c.put_node-at.ensures.0

pub shape_of-buffer : goal.shape_of-buffer
shape_of-buffer c = c.loop-v.invariant.same

pub returns : goal.returns
returns c = left_none _ _ _ _ _ _ _ _ c.loop-v.invariant (omega arith)
