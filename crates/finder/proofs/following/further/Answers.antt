-- `further` meets its contract: each way so far has come to its index by its places. From the laws on ways.
use mathlib.Core.Path.{refl, ◌∙◌}
use Prim.Native.Nat.{ℕ, ◌+◌, ◌-◌, ◌*◌, ◌/◌, ◌≤◌, ◌<◌}
use native.Mathlib.Omega.{arith}
use Rattle.graph.specs.Graph.{Graph}
use Rattle.finder.proofs.Meets.{come_put}
use Rattle.finder.proofs.following.further.Goals as goal
use Rattle.finder.proofs.following.further.Goals.{Start}
use Rattle.finder.proofs.following.further.Invariants.{Inv}
use Rattle.finder.specs.Nodes.{nodes_in}

abbrev graph : Start → Graph
graph s = nodes_in s.args.graph.now

third : (n j t : ℕ) → j < 3 * n → n ≤ t → j / 3 < t
third n j t h k = omega arith

room : (f n j t k k₀ l l₀ : ℕ) → Inv f n j t k k₀ l l₀ → j < 3 * n → n ≤ 4 → n + 3 * (n - f) ≤ k₀ → n + 3 * (n - f) ≤ l₀ → (t < k) × (t < l) × (t < 1000)
room f n j t k k₀ l l₀ i h e p q = (omega (arith, i.low, i.few, i.same), omega (arith, i.low, i.few, i.same_words), omega (arith, i.low, i.few))

pub loop-j-init : goal.loop-j-init
loop-j-init c =
    (record { low = omega arith; high = omega (arith, c.requires.2); some = omega arith; few = omega arith; same = refl; same_words = refl }, c.requires.1)

pub offset_bounds-heads-j : goal.offset_bounds-heads-j
offset_bounds-heads-j c = omega (arith, c.loop-j-test.true, c.requires.3)

pub bounds-heads-j : goal.bounds-heads-j
bounds-heads-j c = let l = c.loop-j in omega (arith, third _ _ _ c.loop-j-test.true l.invariant.0.some, l.invariant.1.listed)

pub offset_bounds-met-j : goal.offset_bounds-met-j
offset_bounds-met-j c = omega (arith, c.loop-j-test.true, c.requires.3)

pub bounds-met-j : goal.bounds-met-j
bounds-met-j c = let l = c.loop-j in omega (arith, third _ _ _ c.loop-j-test.true l.invariant.0.some, l.invariant.1.words)

pub step-head-requires : goal.step-head-requires
step-head-requires c =
    let l = c.loop-j in
    (c.requires.0, l.invariant.1.each (l.j / 3) (third _ _ _ c.loop-j-test.true l.invariant.0.some), omega arith)

pub put-t-requires : goal.put-t-requires
put-t-requires c =
    let l = c.loop-j in
    room _ _ _ _ _ _ _ _ l.invariant.0 c.loop-j-test.true c.requires.3 c.requires.4 c.requires.5

pub loop-j-smaller : goal.loop-j-smaller
loop-j-smaller c = omega (arith, c.loop-j-test.true)

pub loop-j-preserved : goal.loop-j-preserved
loop-j-preserved c =
    let o = c.put-t in
    let h = c.step-head in
    let t = c.loop-j-test.true in
    let l = c.loop-j in
    let a = c.args in
    let i = l.invariant.0 in
    let r = room _ _ _ _ _ _ _ _ i t c.requires.3 c.requires.4 c.requires.5 in
    let k = come_put (graph (goal.at.loop-j-preserved c).Start) a.v a.m a.list.now l.t h.result o.result _ _ _ _ r.0 r.1 l.invariant.1 h.ensures o.ensures in (
      record {
        low = omega (arith, i.low);
        high = omega (arith, t);
        some = omega (arith, i.some, k.1);
        few = omega (arith, i.low, i.few, k.2);
        same = o.ensures.same ∙ i.same;
        same_words = o.ensures.same_words ∙ i.same_words;
      },
      k.0,
    )

pub shape_of-heads : goal.shape_of-heads
shape_of-heads c = c.loop-j.invariant.0.same

pub shape_of-met : goal.shape_of-met
shape_of-met c = c.loop-j.invariant.0.same_words

pub returns : goal.returns
returns c =
    let l = c.loop-j in
    let i = l.invariant.0 in
    (l.invariant.1, i.some, omega (arith, i.few, i.high, i.low), i.same, i.same_words)
