-- `mark_locked` meets its contract. From the laws on one mark.
use Rattle.finder.proofs.Marks.{lock_none, lock_set}
use Rattle.finder.proofs.living.mark_locked.Goals as goal

pub returns-then-locks-v-ne1 : goal.returns-then-locks-v-ne1
returns-then-locks-v-ne1 c = let a = c.args in lock_none a.locks.now a.v a.scratch.now c.if-locks-v-ne1.true

pub returns : goal.returns
returns c = let a = c.args in lock_set a.locks.now a.v a.scratch.now c.if-locks-v-ne1.false c.requires.1
