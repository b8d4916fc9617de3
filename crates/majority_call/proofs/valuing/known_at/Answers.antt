-- `known_at` meets its contract. From the laws on tests.
use mathlib.Core.Path.{◌≡◌, refl, ap, ◌∙◌}
use Prim.Native.Nat.{◌+◌, ◌-◌}
use native.Mathlib.Omega.{arith}
use Rattle.graph.proofs.Tests.{less, no_less, equal, unequal}
use Rattle.hidden.specs.Truth.{triple}
use Rattle.majority_call.specs.Valuing.{known_at, kept_at}
use Rattle.majority_call.proofs.valuing.known_at.Goals as goal

pub returns-then-index-one : goal.returns-then-index-one
unfolding known_at
returns-then-index-one c = equal _ _ _ _ c.if-index-one.true refl

pub returns-then-index-two : goal.returns-then-index-two
unfolding known_at
returns-then-index-two c = unequal _ _ _ _ c.if-index-one.false (equal _ _ _ _ c.if-index-two.true refl)

pub returns-then-index-three : goal.returns-then-index-three
unfolding known_at
returns-then-index-three c = unequal _ _ _ _ c.if-index-one.false (unequal _ _ _ _ c.if-index-two.false (equal _ _ _ _ c.if-index-three.true refl))

pub returns-then-index-eq0 : goal.returns-then-index-eq0
unfolding known_at
returns-then-index-eq0 c =
    unequal _ _ _ _ c.if-index-one.false
    (unequal _ _ _ _ c.if-index-two.false (unequal _ _ _ _ c.if-index-three.false (equal _ _ _ _ c.if-index-eq0.true refl)))

pub returns-then-index-inputs : goal.returns-then-index-inputs
unfolding known_at
returns-then-index-inputs c =
    unequal _ _ _ _ c.if-index-one.false
    (unequal _ _ _ _ c.if-index-two.false
    (unequal _ _ _ _ c.if-index-three.false (unequal _ _ _ _ c.if-index-eq0.false (no_less _ _ _ _ c.if-index-inputs.true refl))))

pub returns : goal.returns
unfolding known_at
returns c =
    let a = c.args in
    let e : a.index - a.inputs - 1 ≡ a.index - (a.inputs + 1) = omega arith in
    unequal _ _ _ _ c.if-index-one.false
    (unequal _ _ _ _ c.if-index-two.false
    (unequal _ _ _ _ c.if-index-three.false
    (unequal _ _ _ _ c.if-index-eq0.false
    (less _ _ _ _ (omega arith) (c.kept_at.ensures ∙ ap (kept_at a.inputs a.scratch.now (triple a.one a.two a.three)) e)))))
