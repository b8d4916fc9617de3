-- `nearest_open` meets its contract: word by word. From the laws on open indices.
use mathlib.Core.Path.{refl, sym, ◌∙◌}
use Prim.Native.Nat.{ℕ, ◌+◌, ◌-◌, ◌*◌, ◌≤◌, ◌<◌}
use native.Mathlib.Omega.{arith}
use borrow.Author.Tests.{eqb-false}
use lib.ListN.{length}
use Rattle.graph.specs.Graph.{Graph, mark, node, word}
use Rattle.graph.proofs.Edge.{edge_third}
use Rattle.graph.proofs.Words.{is_word}
use Rattle.finder.proofs.Named.{first_named, second_named, third_named}
use Rattle.finder.proofs.Opens.{leading_more, leading_first, leading_second}
use Rattle.finder.proofs.down.nearest_open.Goals as goal
use Rattle.finder.proofs.down.nearest_open.Goals.{Start}
use Rattle.finder.specs.Nodes.{nodes_in}

abbrev graph : Start → Graph
graph s = nodes_in s.args.graph.now

inside : (v n k h : ℕ) → k < 3 → v < n → 3 * n ≤ h → 3 * v + k < h
inside v n k h b l e = omega arith

room : (i n v w u l : ℕ) → i ≤ 4096 → n ≤ 100000 → v < n → w < i + 1 + v → u < i + 1 + v → 8 * n ≤ l → (i ≤ 4096) × (w ≤ i + 100000) × (8 * (w - i) ≤ l) × (u ≤ i + 100000) × (8 * (u - i) ≤ l)
room i n v w u l a b h q k e = (a, omega arith, omega arith, omega arith, omega arith)

rooms : (s : Start) (w u : ℕ) → w < node (graph s) s.args.v → u < node (graph s) s.args.v
    → (s.args.graph.now.inputs ≤ 4096) × (w ≤ s.args.graph.now.inputs + 100000) × (8 * (w - s.args.graph.now.inputs) ≤ length s.args.scratch.now) × (u ≤ s.args.graph.now.inputs + 100000) × (8 * (u - s.args.graph.now.inputs) ≤ length s.args.scratch.now)
rooms s w u h k = room s.args.graph.now.inputs s.args.graph.now.nodes s.args.v w u _ s.requires.0.few_inputs s.requires.0.few_nodes s.requires.1 h k s.requires.2

pub index_at-requires : goal.index_at-requires
index_at-requires c = omega (arith, c.requires.1, c.requires.0.held_nodes)

pub nearer_open-a-requires : goal.nearer_open-a-requires
nearer_open-a-requires c = rooms (goal.at.nearer_open-a-requires c).Start 0 c.index_at.result (omega arith) (first_named (graph (goal.at.nearer_open-a-requires c).Start) c.requires.0 c.args.v _ c.requires.1 c.index_at.ensures).1

pub index_at-requires-2 : goal.index_at-requires-2
index_at-requires-2 c = inside c.args.v c.args.graph.now.nodes 1 _ (omega arith) c.requires.1 c.requires.0.held_nodes

pub nearer_open-b-requires : goal.nearer_open-b-requires
nearer_open-b-requires c =
    let p = c.nearer_open-a in
    let x = c.index_at in
    rooms (goal.at.nearer_open-b-requires c).Start p.result c.index_at-2.result (leading_first (graph (goal.at.nearer_open-b-requires c).Start) c.requires.0 c.args.scratch.now c.args.v c.requires.1 x.result p.result x.ensures p.ensures).below (second_named (graph (goal.at.nearer_open-b-requires c).Start) c.requires.0 c.args.v _ c.requires.1 c.index_at-2.ensures).1

pub is_mark_at-requires : goal.is_mark_at-requires
is_mark_at-requires c =
    (inside c.args.v c.args.graph.now.nodes 2 _ (omega arith) c.requires.1 c.requires.0.held_nodes, is_word (graph (goal.at.is_mark_at-requires c).Start) c.requires.0 (3 * c.args.v + 2) (omega (arith, c.requires.1)))

pub returns-then-is_mark_at : goal.returns-then-is_mark_at
returns-then-is_mark_at c =
    let q = c.nearer_open-b in
    let y = c.index_at-2 in
    let p = c.nearer_open-a in
    let x = c.index_at in
    leading_second (graph (goal.at.returns-then-is_mark_at c).Start) c.requires.0 c.args.scratch.now c.args.v c.requires.1 x.result y.result p.result q.result x.ensures p.ensures y.ensures q.ensures

pub index_at-requires-3 : goal.index_at-requires-3
index_at-requires-3 c = inside c.args.v c.args.graph.now.nodes 2 _ (omega arith) c.requires.1 c.requires.0.held_nodes

pub nearer_open-requires : goal.nearer_open-requires
nearer_open-requires c =
    let q = c.nearer_open-b in
    let y = c.index_at-2 in
    let p = c.nearer_open-a in
    let x = c.index_at in
    let d = eqb-false (word (graph (goal.at.nearer_open-requires c).Start) (3 * c.args.v + 2)) mark (sym c.is_mark_at.ensures ∙ c.if-is_mark_at.false) in
    rooms (goal.at.nearer_open-requires c).Start q.result c.index_at-3.result (leading_second (graph (goal.at.nearer_open-requires c).Start) c.requires.0 c.args.scratch.now c.args.v c.requires.1 x.result y.result p.result q.result x.ensures p.ensures y.ensures q.ensures).below
    (third_named (graph (goal.at.nearer_open-requires c).Start) c.requires.0 c.args.v _ c.requires.1 d c.index_at-3.ensures).1

pub returns : goal.returns
returns c =
    let q = c.nearer_open-b in
    let y = c.index_at-2 in
    let p = c.nearer_open-a in
    let x = c.index_at in
    let a = c.args in
    let g : Graph = graph (goal.at.returns c).Start in
    let d = eqb-false (word g (3 * a.v + 2)) mark (sym c.is_mark_at.ensures ∙ c.if-is_mark_at.false) in
    let z = third_named g c.requires.0 a.v _ c.requires.1 d c.index_at-3.ensures in
    leading_more g a.scratch.now a.v _ (3 * a.v + 2) _ _ (leading_second (graph (goal.at.returns c).Start) c.requires.0 c.args.scratch.now c.args.v c.requires.1 x.result y.result p.result q.result x.ensures p.ensures y.ensures q.ensures) 2 (omega arith) refl
    (edge_third g (3 * a.v + 2) (omega arith) d) z.0 z.1 c.nearer_open.ensures
