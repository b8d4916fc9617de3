-- `put_nodes` stores the nodes' fields one after another: those that are left come to the whole. From the laws on fields in a row.
use native.Mathlib.Omega.{arith}
use Rattle.tagged_file.proofs.Emitted.{left_start, left_room, left_next, left_none}
use Rattle.tagged_file.proofs.emit.put_nodes.Goals as goal

pub loop-v-init : goal.loop-v-init
loop-v-init c = left_start _ _ _ _

pub put_node-at-requires : goal.put_node-at-requires
put_node-at-requires c =
    let l = c.loop-v in
    let p = c.requires in
    (p.0 l.v (omega arith), left_room _ _ _ _ l.buffer l.at l.v _ l.invariant (omega arith) p.1)

pub loop-v-preserved : goal.loop-v-preserved
loop-v-preserved c =
    let l = c.loop-v in
    let p = c.put_node-at in
    left_next _ _ _ _ l.buffer l.at l.v l.invariant (omega arith) _ _ p.ensures.1 p.ensures.0

pub shape_of-buffer : goal.shape_of-buffer
shape_of-buffer c = c.loop-v.invariant.same

pub returns : goal.returns
returns c = let l = c.loop-v in left_none _ _ _ _ l.buffer l.at l.v _ l.invariant (omega arith)
