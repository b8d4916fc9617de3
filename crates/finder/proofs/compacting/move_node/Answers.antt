-- `move_node` meets its contract: all three words are read before one is stored. From the laws on one node's words.
use mathlib.Core.Path.{◌≡◌, refl, ◌∙◌}
use mathlib.Core.List.{List}
use Prim.Native.Nat.{ℕ, ◌+◌, ◌*◌, ◌≤◌, ◌<◌}
use native.Mathlib.Omega.{arith}
use Rattle.graph.specs.Literals.{literals}
use Rattle.finder.proofs.Compact.{renumber_low, other_holds, other_moves, moved_word_lem, three_stored}
use Rattle.finder.proofs.Rooms.{held_kept}
use Rattle.finder.proofs.compacting.move_node.Goals as goal
use Rattle.finder.proofs.compacting.move_node.Goals.{Start}

abbrev words : Start → List ℕ
words s = literals s.args.node_table.now s.args.node_bits.now

inside : (v t k h h₀ : ℕ) → k < 3 → t ≤ v → 3 * v + 3 ≤ h₀ → h ≡ h₀ → 3 * t + k < h
inside v t k h h₀ b l r e = omega arith

pub edge_at-requires : goal.edge_at-requires
edge_at-requires c =
    let a = c.args in
    (omega (arith, c.requires.2), (other_holds a.inputs a.scratch.now (words (goal.at.edge_at-requires c).Start) a.v c.requires.3 0 (3 * a.v) _ (omega arith) (omega arith) refl).low)

pub renumbered-x-requires : goal.renumbered-x-requires
renumbered-x-requires c =
    let a = c.args in
    other_holds a.inputs a.scratch.now (words (goal.at.renumbered-x-requires c).Start) a.v c.requires.3 0 (3 * a.v) _ (omega arith) (omega arith) c.edge_at.ensures

pub edge_at-requires-2 : goal.edge_at-requires-2
edge_at-requires-2 c =
    let a = c.args in
    (omega (arith, c.requires.2), (other_holds a.inputs a.scratch.now (words (goal.at.edge_at-requires-2 c).Start) a.v c.requires.3 1 (3 * a.v + 1) _ (omega arith) refl refl).low)

pub renumbered-y-requires : goal.renumbered-y-requires
renumbered-y-requires c =
    let a = c.args in
    other_holds a.inputs a.scratch.now (words (goal.at.renumbered-y-requires c).Start) a.v c.requires.3 1 (3 * a.v + 1) _ (omega arith) refl c.edge_at-2.ensures

pub set_word-requires : goal.set_word-requires
set_word-requires c =
    let a = c.args in
    let h = other_holds a.inputs a.scratch.now (words (goal.at.set_word-requires c).Start) a.v c.requires.3 0 (3 * a.v) _ (omega arith) (omega arith) c.edge_at.ensures in
    (omega (arith, c.requires.2, c.requires.0), λ n. rw c.renumbered-x.ensures (renumber_low a.inputs a.scratch.now _ h))

pub set_word-requires-2 : goal.set_word-requires-2
set_word-requires-2 c =
    let o = c.set_word.auto in
    let a = c.args in
    let h = other_holds a.inputs a.scratch.now (words (goal.at.set_word-requires-2 c).Start) a.v c.requires.3 1 (3 * a.v + 1) _ (omega arith) refl c.edge_at-2.ensures in
    let e = held_kept a.node_table.now a.node_bits.now _ _ (record { indices = o.table; bits = o.bits }) in
    (inside a.v a.t 1 _ _ (omega arith) c.requires.0 c.requires.2 e, λ n. rw c.renumbered-y.ensures (renumber_low a.inputs a.scratch.now _ h))

pub overflow_add-at-2 : goal.overflow_add-at-2
overflow_add-at-2 c = record { fits = omega (arith, c.requires.0, c.requires.1) }

pub set_word-requires-3 : goal.set_word-requires-3
set_word-requires-3 c =
    let o = c.set_word.auto in
    let p = c.set_word-2.auto in
    let a = c.args in
    let e = held_kept a.node_table.now a.node_bits.now _ _ (record { indices = p.table ∙ o.table; bits = p.bits ∙ o.bits }) in
    (inside a.v a.t 2 _ _ (omega arith) c.requires.0 c.requires.2 e, rw c.moved_third-z.ensures (moved_word_lem a.inputs a.scratch.now (words (goal.at.set_word-requires-3 c).Start) a.v c.requires.3))

pub returns : goal.returns
returns c =
    let a = c.args in
    three_stored a.inputs a.scratch.now (words (goal.at.returns c).Start) a.v a.t _ _ _ _ _ _
    (other_moves a.inputs a.scratch.now (words (goal.at.returns c).Start) a.v 0 (3 * a.v) _ _ (omega arith) (omega arith) c.edge_at.ensures c.renumbered-x.ensures)
    (other_moves a.inputs a.scratch.now (words (goal.at.returns c).Start) a.v 1 (3 * a.v + 1) _ _ (omega arith) refl c.edge_at-2.ensures c.renumbered-y.ensures)
    c.moved_third-z.ensures
    c.set_word.ensures
    c.set_word-2.ensures
    c.set_word-3.ensures
