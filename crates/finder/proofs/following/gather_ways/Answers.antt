-- `gather_ways` meets its contract. From the laws on ways.
use mathlib.Core.Path.{◌≡◌, refl, ap}
use Prim.Native.Nat.{ℕ, ◌+◌, ◌-◌, ◌*◌, ◌≤◌}
use native.Mathlib.Omega.{arith}
use Rattle.graph.specs.Graph.{Graph}
use Rattle.finder.proofs.Meets.{come_one}
use Rattle.finder.proofs.following.gather_ways.Goals as goal
use Rattle.finder.proofs.following.gather_ways.Goals.{Start}
use Rattle.finder.specs.Nodes.{nodes_in}

abbrev graph : Start → Graph
graph s = nodes_in s.args.graph.now

room : (p l l₀ k k₀ : ℕ) → p ≤ 1 + 3 * (1 - 0) → 1 ≤ p → l ≡ l₀ → k ≡ k₀ → l₀ ≡ 13 → k₀ ≡ 13 → (1 ≤ p) × (p ≤ 4) × (p + 3 * (p - 1) ≤ l) × (p + 3 * (p - 1) ≤ k)
room p l l₀ k k₀ h q e f i j = (q, omega arith, omega arith, omega arith)

pub further-p-requires : goal.further-p-requires
further-p-requires c =
    let w = c.narrow in
    let a = c.args in
    (c.requires.0.near, come_one (graph (goal.at.further-p-requires c).Start) a.v a.m a.list.now c.requires.0.near _ _ (omega arith) (omega arith) (ap (λ (x : ℕ). a.graph.now.inputs + 1 + x) w.ensures) refl, omega arith, omega arith, omega arith, omega arith)

pub further-q-requires : goal.further-q-requires
further-q-requires c =
    let o = c.further-p in
    let r = room o.result _ _ _ _ o.ensures.2 o.ensures.1 o.ensures.3 o.ensures.4 refl refl in
    (c.requires.0.near, o.ensures.0, r.0, r.1, r.2, r.3)

pub ways_from-requires : goal.ways_from-requires
ways_from-requires c =
    let q = c.further-q in
    let o = c.further-p in
    (c.requires.0, q.ensures.0, q.ensures.1, omega (arith, q.ensures.2, o.ensures.2), omega (arith, q.ensures.2, o.ensures.2), c.requires.1)
