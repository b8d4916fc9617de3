-- `put_inputs` meets its contract: the lines that are left come to the whole. From the laws on parts in a row.
use Rattle.tagged_file.proofs.Emitted.{left_start, left_room, left_next, left_none}
use Rattle.aiger_export.specs.Inner.{input_line}
use native.Mathlib.Omega.{arith}
use Rattle.aiger_export.proofs.text.put_inputs.Goals as goal

pub loop-k-init : goal.loop-k-init
loop-k-init c = left_start _ _ _ _

pub put_ended-at-requires : goal.put_ended-at-requires
unfolding input_line
put_ended-at-requires c = left_room _ _ _ _ _ _ _ _ c.loop-k.invariant (omega arith) c.requires.1

pub loop-k-preserved : goal.loop-k-preserved
unfolding input_line
loop-k-preserved c =
    left_next _ _ _ _ _ _ _ c.loop-k.invariant c.loop-k-test.true _ _ c.put_ended-at.ensures.1 c.put_ended-at.ensures.0

pub shape_of-buffer : goal.shape_of-buffer
shape_of-buffer c = c.loop-k.invariant.same

pub returns : goal.returns
returns c = left_none _ _ _ _ _ _ _ _ c.loop-k.invariant (omega arith)
