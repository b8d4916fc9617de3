-- `place_of` meets its contract: of the indices that have been looked at so many are below the one sought. From the laws on ways.
use mathlib.Core.Path.{◌≡◌}
use Prim.Native.Nat.{ℕ, ◌≤◌, ◌<◌}
use native.Mathlib.Omega.{arith}
use Rattle.finder.proofs.Meets.{before_next, before_all, before_some}
use Rattle.finder.proofs.masks.place_of.Goals as goal

low : (a b m : ℕ) → a ≤ b → b ≤ m → (a ≡ m → ⊥) → a < m
low a b m h k n = omega arith

pub loop-c-init : goal.loop-c-init
loop-c-init c = (omega arith, record { few = omega arith; lower = λ k h. absurd (omega arith); higher = λ k h q. absurd (omega arith) })

pub offset_bounds-list-c : goal.offset_bounds-list-c
offset_bounds-list-c c = omega (arith, c.loop-c-test.true, c.requires.0)

pub bounds-list-c : goal.bounds-list-c
bounds-list-c c = omega (arith, c.loop-c-test.true, c.requires.1)

pub counted-below-requires : goal.counted-below-requires
counted-below-requires c = omega (arith, c.loop-c.invariant.1.few, c.loop-c.invariant.0, c.requires.0)

pub loop-c-preserved : goal.loop-c-preserved
loop-c-preserved c =
    let t = c.loop-c-test.true in
    let l = c.loop-c in
    (omega (arith, t), before_next c.args.m c.args.list.now c.requires.2 c.args.index l.below l.c c.counted-below.result t l.invariant.1 c.counted-below.ensures)

pub returns-then-below-m : goal.returns-then-below-m
returns-then-below-m c =
    let l = c.loop-c in
    before_all c.args.m c.args.list.now c.requires.2 c.args.index l.below l.c c.if-below-m.true l.invariant.1

pub offset_bounds-list-below : goal.offset_bounds-list-below
offset_bounds-list-below c = omega (arith, c.loop-c.invariant.1.few, c.loop-c.invariant.0, c.requires.0)

pub bounds-list-below : goal.bounds-list-below
bounds-list-below c = let l = c.loop-c in omega (arith, low _ _ _ l.invariant.1.few l.invariant.0 c.if-below-m.false, c.requires.1)

pub place-requires : goal.place-requires
place-requires c = let l = c.loop-c in omega (arith, l.invariant.1.few, l.invariant.0, c.requires.0)

pub returns : goal.returns
returns c =
    let l = c.loop-c in
    before_some c.args.m c.args.list.now c.requires.2 c.args.index l.below l.c (omega (arith, c.loop-c-test.false))
    (low _ _ _ l.invariant.1.few l.invariant.0 c.if-below-m.false) l.invariant.1 c.place.result c.place.ensures
