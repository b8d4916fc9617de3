-- `cut` meets its contract: nodes and locks moved together, then zeros. From the laws on the drop.
use mathlib.Core.Path.{◌≡◌}
use Prim.Native.Nat.{ℕ, ◌*◌, ◌≤◌}
use native.Mathlib.Omega.{arith}
use Rattle.graph.specs.Graph.{Graph, graph_of}
use Rattle.graph.specs.Literals.{literals}
use Rattle.finder.specs.Compacting.{Compacted}
use Rattle.finder.proofs.Drops.{nodes_cut, locks_cut}
use Rattle.finder.proofs.Rooms.{held_kept}
use Rattle.finder.proofs.dropping.cut.Goals as goal

room : (n m t h h₀ : ℕ) → m ≡ n → t ≤ m → n ≤ 100000 → 3 * n ≤ h₀ → h ≡ h₀ → (3 * t ≤ 3 * m) × (3 * m ≤ 300000) × (3 * m ≤ h)
room n m t h h₀ e b f k q = (omega arith, omega arith, omega arith)

locks-room : (n m t l l₀ : ℕ) → m ≡ n → t ≤ m → n ≤ 100000 → n ≤ l₀ → l ≡ l₀ → (t ≤ m) × (m ≤ 300000) × (m ≤ l)
locks-room n m t l l₀ e b f k q = (omega arith, omega arith, omega arith)

pub compact-t-requires : goal.compact-t-requires
compact-t-requires c = rw c.wide-n.ensures c.requires

pub clear_words-requires : goal.clear_words-requires
clear_words-requires c =
    let k = c.compact-t in
    let a = c.args in
    let e = held_kept a.node_table.now a.node_bits.now _ _ (record { indices = k.auto.node_table; bits = k.auto.node_bits }) in
    room a.nodes _ k.result _ _ c.wide-n.ensures k.ensures.0 c.requires.0 c.requires.3 e

pub clear_locks-requires : goal.clear_locks-requires
clear_locks-requires c =
    let k = c.compact-t in
    let a = c.args in
    locks-room a.nodes _ k.result _ _ c.wide-n.ensures k.ensures.0 c.requires.0 c.requires.1 k.auto.locks

pub returns : goal.returns
returns c =
    let a = c.args in
    let e = c.wide-n.ensures in
    λ o os l m.
    let g : Graph = graph_of a.inputs a.nodes o (literals a.node_table.now a.node_bits.now) os in
    let d : Compacted g l a.locks.now a.nodes c.compact-t.result _ _ = rw e at (c.compact-t.ensures.1 o os l (rw e m)) in
    (nodes_cut g l a.locks.now _ _ _ d _ (rw e at c.clear_words.ensures), locks_cut g l a.locks.now _ _ _ d _ (rw e at c.clear_locks.ensures))
