-- `mark` meets its contract. From the laws on one mark.
use native.Mathlib.Omega.{arith}
use Rattle.finder.proofs.Marks.{mark_none, mark_set}
use Rattle.finder.proofs.living.mark.Goals as goal

pub returns-then-index-inputs : goal.returns-then-index-inputs
returns-then-index-inputs c = let a = c.args in mark_none a.inputs a.index a.scratch.now c.if-index-inputs.true

pub returns : goal.returns
returns c =
    let a = c.args in
    mark_set a.inputs a.index _ _ a.scratch.now (omega arith) c.wide.ensures (omega arith) c.requires
