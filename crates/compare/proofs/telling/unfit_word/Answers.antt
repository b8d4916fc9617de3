-- `unfit_word` meets its contract: by the kind. From the laws on tests.
use mathlib.Core.Path.{◌≡◌, refl, sym, ◌∙◌}
use mathlib.Core.Bool.{Bool, true, false, cond}
use mathlib.Core.Logic.{◌≢◌}
use Rattle.std.specs.Prelude.{ℕ, Some, None}
use Rattle.graph.proofs.Tests.{equal, unequal}
use Rattle.compare.specs.Telling.{unfit}
use Rattle.compare.proofs.telling.unfit_word.Goals as goal

second-unfit : (k : Bool) (x y z : ℕ) → x ≢ cond k x y → Some 1 ≡ unfit k x y z
unfolding unfit
second-unfit true x y z n = absurd (n refl)
second-unfit false x y z n = unequal x y _ (Some 1) n refl

third-unfit : (k : Bool) (x y z : ℕ) → x ≡ cond k x y → x ≢ cond k x z → Some 2 ≡ unfit k x y z
unfolding unfit
third-unfit true x y z e n = absurd (n refl)
third-unfit false x y z e n = equal x y _ (Some 1) e (unequal x z None (Some 2) n refl)

all_fit : (k : Bool) (x y z : ℕ) → x ≡ cond k x y → x ≡ cond k x z → None ≡ unfit k x y z
unfolding unfit
all_fit true x y z e q = refl
all_fit false x y z e q = equal x y _ (Some 1) e (equal x z None (Some 2) q refl)

pub returns-then-x-either : goal.returns-then-x-either
returns-then-x-either c = let a = c.args in second-unfit a.xor a.x a.y a.z (λ e. c.if-x-either.true (e ∙ sym c.either.ensures))

pub returns-then-x-either-2 : goal.returns-then-x-either-2
returns-then-x-either-2 c =
    let a = c.args in
    third-unfit a.xor a.x a.y a.z (c.if-x-either.false ∙ c.either.ensures) (λ e. c.if-x-either-2.true (e ∙ sym c.either-2.ensures))

pub returns : goal.returns
returns c =
    let a = c.args in
    all_fit a.xor a.x a.y a.z (c.if-x-either.false ∙ c.either.ensures) (c.if-x-either-2.false ∙ c.either-2.ensures)
