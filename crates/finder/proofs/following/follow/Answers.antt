-- `follow` meets its contract: the way has come to an index by the places met so far. From the laws on ways.
use Prim.Native.Nat.{ℕ, ◌+◌, ◌-◌, ◌*◌, ◌/◌, ◌≤◌, ◌<◌}
use native.Mathlib.Omega.{arith}
use Rattle.graph.specs.Graph.{Graph, node}
use Rattle.finder.specs.Meeting.{Bars}
use Rattle.finder.proofs.Meets.{bars_all, listed_rise, inside, comes_on, comes_end, told_or}
use Rattle.finder.proofs.following.follow.Goals as goal
use Rattle.finder.proofs.following.follow.Goals.{Start}
use Rattle.finder.specs.Nodes.{nodes_in}

abbrev graph : Start → Graph
graph s = nodes_in s.args.graph.now

none : (s : Start) → Bars (graph s) s.args.list.now s.args.m 18446744073709551615 (node (graph s) s.args.v)
none s = bars_all (graph s) s.args.list.now s.args.m (node (graph s) s.args.v) s.requires.0.near.few

room : (i n x l : ℕ) {m : ℕ} → i ≤ 4096 → n ≤ 100000 → 0 < x → x < i + 1 + n → 8 * n ≤ l → 0 < m → (i ≤ 4096) × (0 < x) × (x ≤ i + 100000) × (8 * (x - i) ≤ l) × (0 < m)
room i n x l a b z k e p = (a, z, omega arith, omega arith, p)

held : (n w l : ℕ) → n ≤ 100000 → w < n → 8 * n ≤ l → (w < 100000) × (0 < 8) × (8 * w + 0 < l)
held n w l b h k = (omega arith, omega arith, omega arith)

pub is_far-requires : goal.is_far-requires
is_far-requires c =
    let f = c.requires.0 in
    room c.args.graph.now.inputs c.args.graph.now.nodes _ _ f.near.admitted.few_inputs f.near.admitted.few_nodes c.requires.1.some c.requires.1.below f.room f.near.some

pub returns-then-is_far : goal.returns-then-is_far
returns-then-is_far c = none (goal.at.returns-then-is_far c).Start

pub loop-far-init : goal.loop-far-init
loop-far-init c = c.requires.1

pub ends-requires : goal.ends-requires
ends-requires c =
    let k = c.loop-far.invariant in
    let f = c.requires.0 in
    room c.args.graph.now.inputs c.args.graph.now.nodes _ _ f.near.admitted.few_inputs f.near.admitted.few_nodes k.some k.below f.room f.near.some

pub returns-then-ends : goal.returns-then-ends
returns-then-ends c =
    let l = c.loop-far in
    let a = c.args in
    comes_end (graph (goal.at.returns-then-ends c).Start) a.v a.m a.list.now a.scratch.now c.requires.0 l.x l.mask l.invariant (c.ends.ensures c.if-ends.true)

pub returns-then-x-graph : goal.returns-then-x-graph
returns-then-x-graph c = none (goal.at.returns-then-x-graph c).Start

pub overflow_sub-x : goal.overflow_sub-x
overflow_sub-x c = omega (arith, c.if-x-graph.false)

pub overflow_sub-x-in-loop-far : goal.overflow_sub-x-in-loop-far
overflow_sub-x-in-loop-far c = omega (arith, c.if-x-graph.false)

pub read-x-requires : goal.read-x-requires
read-x-requires c =
    let l = c.loop-far in
    let a = c.args in
    let f = c.requires.0 in
    held a.graph.now.nodes _ _ f.near.admitted.few_nodes (inside (graph (goal.at.read-x-requires c).Start) a.v a.m a.list.now f.near l.x l.mask (omega (arith, c.if-x-graph.false)) l.invariant _ c.wide-w.ensures) f.room

pub returns-then-x-eq0 : goal.returns-then-x-eq0
returns-then-x-eq0 c = none (goal.at.returns-then-x-eq0 c).Start

pub place_of-mask-requires : goal.place_of-mask-requires
place_of-mask-requires c =
    let f = c.requires.0.near in
    (f.few, f.listed, listed_rise (graph (goal.at.place_of-mask-requires c).Start) c.args.v c.args.m c.args.list.now f)

pub loop-far-preserved : goal.loop-far-preserved
loop-far-preserved c =
    let z = c.if-x-eq0.false in
    let x = c.read-x in
    let w = c.wide-w in
    let h = c.if-x-graph.false in
    let l = c.loop-far in
    let a = c.args in
    let f = c.requires.0 in
    let k = inside (graph (goal.at.loop-far-preserved c).Start) a.v a.m a.list.now f.near l.x l.mask (omega (arith, h)) l.invariant w.result w.ensures in
    comes_on (graph (goal.at.loop-far-preserved c).Start) a.v a.m a.list.now f.near l.x l.mask (omega (arith, h)) l.invariant w.result w.ensures (x.result / 2)
    (told_or (graph (goal.at.loop-far-preserved c).Start) f.near.admitted w.result k a.scratch.now x.result f.tells x.ensures) (omega (arith, z)) c.place_of-mask.result c.place_of-mask.ensures.all

pub returns : goal.returns
returns c = none (goal.at.returns c).Start
