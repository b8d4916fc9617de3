-- `put_locks` stores the locks' fields one after another. From the laws on fields in a row.
use native.Mathlib.Omega.{arith}
use Rattle.tagged_file.proofs.Emitted.{left_start, left_room, left_next, left_none}
use Rattle.tagged_file.specs.Write.{lock_field_at}
use Rattle.tagged_file.proofs.emit.put_locks.Goals as goal

pub loop-v-init : goal.loop-v-init
loop-v-init c = left_start _ _ _ _

pub put_lock-at-requires : goal.put_lock-at-requires
unfolding lock_field_at
put_lock-at-requires c =
    let l = c.loop-v in
    left_room _ _ _ _ l.buffer l.at l.v _ l.invariant (omega arith) c.requires.nodes_in_bounds_2

pub loop-v-preserved : goal.loop-v-preserved
unfolding lock_field_at
loop-v-preserved c =
    let l = c.loop-v in
    left_next _ _ _ _ l.buffer l.at l.v l.invariant (omega arith) _ _ c.put_lock-at.ensures.buffer_after c.put_lock-at.ensures.value

pub shape_of-buffer : goal.shape_of-buffer
shape_of-buffer c = c.loop-v.invariant.same

pub returns : goal.returns
returns c =
    let l = c.loop-v in
    let r = left_none _ _ _ _ l.buffer l.at l.v _ l.invariant (omega arith) in
    record { value = r.0; buffer_after = r.1 }
