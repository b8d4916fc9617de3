-- `number_one` meets its contract. From the laws on ranks.
use mathlib.Core.Path.{refl}
use native.Mathlib.Omega.{arith}
use Rattle.finder.proofs.Ranks.{numbering_kept, numbering_passed}
use Rattle.finder.proofs.numbering.number_one.Goals as goal

pub returns-then-scratch-v-ne1 : goal.returns-then-scratch-v-ne1
returns-then-scratch-v-ne1 c =
    let a = c.args in
    (omega arith, λ n l h k m. numbering_passed l a.inputs n a.v a.to a.scratch.now a.scratch.now m h k _ refl c.if-scratch-v-ne1.true)

pub returns : goal.returns
returns c =
    let a = c.args in
    (omega arith, λ n l h k m. numbering_kept l a.inputs n a.v a.to a.scratch.now a.scratch.now m h k _ _ refl c.if-scratch-v-ne1.false refl)
