-- `ways_by` meets its contract: each word that has been put bars node v. From the laws on ways.
use mathlib.Core.Path.{refl, ◌∙◌}
use Prim.Native.Nat.{ℕ, ◌+◌, ◌-◌, ◌≤◌, ◌<◌}
use native.Mathlib.Omega.{arith}
use Rattle.graph.specs.Graph.{Graph, node}
use Rattle.finder.proofs.Meets.{bars_added}
use Rattle.finder.proofs.following.ways_by.Goals as goal
use Rattle.finder.proofs.following.ways_by.Goals.{Start}
use Rattle.finder.proofs.following.ways_by.Invariants.{Inv}
use Rattle.finder.specs.Nodes.{nodes_in}

abbrev graph : Start → Graph
graph s = nodes_in s.args.graph.now

room : (f o n e t k k₀ : ℕ) → Inv f o n e t k k₀ → e < o → o ≤ 13 → n ≤ 27 → n + (o - f) ≤ k₀ → (t < k) × (t < 1000)
room f o n e t k k₀ i h q p r = (omega (arith, i.low, i.few, i.same), omega (arith, i.low, i.few))

pub loop-e-init : goal.loop-e-init
loop-e-init c = (record { low = omega arith; high = c.requires.2; few = omega arith; same = refl }, c.requires.7)

pub offset_bounds-heads-e : goal.offset_bounds-heads-e
offset_bounds-heads-e c = omega (arith, c.loop-e-test.true, c.requires.3)

pub bounds-heads-e : goal.bounds-heads-e
bounds-heads-e c = omega (arith, c.loop-e-test.true, c.requires.1.listed)

pub offset_bounds-met-e : goal.offset_bounds-met-e
offset_bounds-met-e c = omega (arith, c.loop-e-test.true, c.requires.3)

pub bounds-met-e : goal.bounds-met-e
bounds-met-e c = omega (arith, c.loop-e-test.true, c.requires.1.words)

pub way-mask-requires : goal.way-mask-requires
way-mask-requires c = (c.requires.0, c.requires.1.each c.loop-e.e c.loop-e-test.true, c.requires.4)

pub add_way-t-requires : goal.add_way-t-requires
add_way-t-requires c = room _ _ _ _ _ _ _ c.loop-e.invariant.0 c.loop-e-test.true c.requires.3 c.requires.5 c.requires.6

pub loop-e-smaller : goal.loop-e-smaller
loop-e-smaller c = omega (arith, c.loop-e-test.true)

pub loop-e-preserved : goal.loop-e-preserved
loop-e-preserved c =
    let d = c.add_way-t in
    let w = c.way-mask in
    let t = c.loop-e-test.true in
    let l = c.loop-e in
    let i = l.invariant.0 in (
      record { low = omega (arith, i.low); high = omega (arith, t); few = omega (arith, i.low, i.few, d.ensures.few); same = d.ensures.same ∙ i.same },
      bars_added (graph (goal.at.loop-e-preserved c).Start) c.args.list.now c.args.m l.t w.result d.result (node (graph (goal.at.loop-e-preserved c).Start) c.args.v) _ _ l.invariant.1 w.ensures d.ensures,
    )

pub shape_of-ways : goal.shape_of-ways
shape_of-ways c = c.loop-e.invariant.0.same

pub returns : goal.returns
returns c = let i = c.loop-e.invariant.0 in (c.loop-e.invariant.1, omega (arith, i.few, i.low, i.high), i.same)
