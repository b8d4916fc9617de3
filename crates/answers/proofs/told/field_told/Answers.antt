-- `field_told` meets its contract. From the laws on answers.
use mathlib.Core.Path.{refl}
use mathlib.Core.List.{[], ◌∷◌}
use Rattle.graph.specs.Answer.{accepted}
use Rattle.graph.proofs.Answers.{refused_is, accepted_is}
use Rattle.answers.proofs.Same.{same_told}
use Rattle.answers.proofs.told.field_told.Goals as goal

pub returns-then-number-ne0 : goal.returns-then-number-ne0
returns-then-number-ne0 c =
    let a = c.args in
    same_told a.before (refused_is a.number _ (accepted (3 ∷ a.length ∷ [])) refl c.if-number-ne0.true)

pub returns : goal.returns
returns c =
    let a = c.args in
    same_told a.before (accepted_is a.number (accepted (3 ∷ a.length ∷ [])) c.if-number-ne0.false)
