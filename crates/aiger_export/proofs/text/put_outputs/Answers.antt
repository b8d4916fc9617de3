-- `put_outputs` meets its contract: the lines that are left come to the whole. From the laws on parts in a row.
use Rattle.tagged_file.proofs.Emitted.{left_start, left_room, left_next, left_none}
use native.Mathlib.Omega.{arith}
use Rattle.aiger_export.proofs.text.put_outputs.Goals as goal

pub loop-j-init : goal.loop-j-init
loop-j-init c = left_start _ _ _ _

pub put_output-at-requires : goal.put_output-at-requires
put_output-at-requires c =
    (c.requires.0, c.requires.1, omega arith, left_room _ _ _ _ _ _ _ _ c.loop-j.invariant (omega arith) c.requires.2)

pub loop-j-preserved : goal.loop-j-preserved
loop-j-preserved c =
    left_next _ _ _ _ _ _ _ c.loop-j.invariant c.loop-j-test.true _ _ c.put_output-at.ensures.1 c.put_output-at.ensures.0

pub shape_of-buffer : goal.shape_of-buffer
shape_of-buffer c = c.loop-j.invariant.same

pub returns : goal.returns
returns c = left_none _ _ _ _ _ _ _ _ c.loop-j.invariant (omega arith)
