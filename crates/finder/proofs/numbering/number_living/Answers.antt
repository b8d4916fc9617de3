-- `number_living` meets its contract: the nodes passed have their numbers. From the laws on ranks.
use mathlib.Core.Path.{◌≡◌, refl, ◌∙◌}
use Prim.Native.Nat.{ℕ, ◌+◌, ◌≤◌, ◌<◌}
use native.Mathlib.Omega.{arith}
use Rattle.finder.proofs.Ranks.{numbering_none, numbering_here, numbering_from}
use Rattle.finder.proofs.numbering.number_living.Goals as goal

room : (v w n l l₀ t : ℕ) → w ≡ v → v < n → n ≤ 100000 → n ≤ l₀ → l ≡ l₀ → t ≤ v → (t ≤ 100000) × (w < l)
room v w n l l₀ t e h f k q b = (omega arith, omega arith)

pub loop-v-init : goal.loop-v-init
loop-v-init c =
    let a = c.args in
    (omega arith, omega arith, refl, λ l f. numbering_none l a.inputs a.nodes a.scratch.now f)

pub number_one-to-requires : goal.number_one-to-requires
number_one-to-requires c =
    let r = room c.loop-v.v c.wide.result c.args.nodes _ _ c.loop-v.to c.wide.ensures c.loop-v-test.true c.requires.1 c.requires.2 c.loop-v.invariant.2 c.loop-v.invariant.1 in
    (c.requires.0, r.0, r.1)

pub loop-v-preserved : goal.loop-v-preserved
loop-v-preserved c =
    let a = c.args in
    let e = c.wide.ensures in
    let k = c.number_one-to.auto.scratch in (
      omega (arith, c.loop-v-test.true),
      omega (arith, c.number_one-to.ensures.0, c.loop-v.invariant.1),
      k ∙ c.loop-v.invariant.2,
      λ m f.
          numbering_from a.inputs a.nodes m (c.loop-v.v + 1) c.number_one-to.result a.scratch.now c.loop-v.scratch _ c.loop-v.invariant.2
          (rw e at (c.number_one-to.ensures.1 a.nodes m (rw e c.loop-v-test.true) (long _ _ _ c.requires.2 c.loop-v.invariant.2) (rw e (numbering_here a.inputs a.nodes m c.loop-v.v c.loop-v.to a.scratch.now c.loop-v.scratch (c.loop-v.invariant.3 m f))))),
    )
  where
    long : (n l l₀ : ℕ) → n ≤ l₀ → l ≡ l₀ → n ≤ l
    long n l l₀ h e = omega arith

pub shape_of-scratch : goal.shape_of-scratch
shape_of-scratch c = c.loop-v.invariant.2

pub returns : goal.returns
returns c =
    let a = c.args in
    let e : c.loop-v.v ≡ a.nodes = omega (arith, c.loop-v-test.false, c.loop-v.invariant.0) in
    (omega (arith, c.loop-v.invariant.1, c.loop-v.invariant.0), λ m f. let r = c.loop-v.invariant.3 m f in (rw e at r.count, rw e at r.done))
