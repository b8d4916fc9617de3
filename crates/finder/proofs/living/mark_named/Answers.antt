-- `mark_named` meets its contract: two words, or three. From the laws on marks.
use mathlib.Core.Path.{◌≡◌, sym, ◌∙◌}
use Prim.Native.Nat.{ℕ, ◌+◌, ◌*◌, ◌≤◌, ◌<◌}
use native.Mathlib.Omega.{arith}
use borrow.Author.Tests.{eqb-true, eqb-false}
use Rattle.graph.specs.Graph.{Graph, mark, word}
use Rattle.graph.proofs.Words.{is_word}
use Rattle.finder.proofs.Named.{first_named, second_named, third_named}
use Rattle.finder.proofs.Marks.{named_two, named_three}
use Rattle.finder.proofs.living.mark_named.Goals as goal
use Rattle.finder.proofs.living.mark_named.Goals.{Start}
use Rattle.graph.specs.Tables.{lent_graph}

abbrev graph : Start → Graph
graph s =
    let a = s.args in
    lent_graph a.lent.now

inside : (v n k h : ℕ) → k < 3 → v < n → 3 * n ≤ h → 3 * v + k < h
inside v n k h b l e = omega arith

fits : (i n v x l l₀ : ℕ) → x < i + 1 + v → v < n → n ≤ l₀ → l ≡ l₀ → x ≤ i + l
fits i n v x l l₀ b h k q = omega arith

self : (l : ℕ) → l ≡ l
self l = omega arith

pub index_at-requires : goal.index_at-requires
index_at-requires c = omega (arith, c.requires.1, c.requires.0.held_nodes)

pub mark-requires : goal.mark-requires
mark-requires c =
    let a = c.args in
    fits a.lent.now.inputs a.lent.now.nodes a.v _ _ _ (first_named (graph (goal.at.mark-requires c).Start) c.requires.0 a.v _ c.requires.1 c.index_at.ensures).1 c.requires.1 c.requires.2 (self _)

pub index_at-requires-2 : goal.index_at-requires-2
index_at-requires-2 c = inside c.args.v c.args.lent.now.nodes 1 _ (omega arith) c.requires.1 c.requires.0.held_nodes

pub mark-requires-2 : goal.mark-requires-2
mark-requires-2 c =
    let a = c.args in
    fits a.lent.now.inputs a.lent.now.nodes a.v _ _ _ (second_named (graph (goal.at.mark-requires-2 c).Start) c.requires.0 a.v _ c.requires.1 c.index_at-2.ensures).1 c.requires.1 c.requires.2 c.mark.ensures.same

pub is_mark_at-requires : goal.is_mark_at-requires
is_mark_at-requires c =
    (inside c.args.v c.args.lent.now.nodes 2 _ (omega arith) c.requires.1 c.requires.0.held_nodes, is_word (graph (goal.at.is_mark_at-requires c).Start) c.requires.0 (3 * c.args.v + 2) (omega (arith, c.requires.1)))

pub returns-then-is_mark_at : goal.returns-then-is_mark_at
returns-then-is_mark_at c =
    let a = c.args in
    let g : Graph = graph (goal.at.returns-then-is_mark_at c).Start in
    named_two g a.v c.index_at.result c.index_at-2.result a.scratch.now _ _
    (first_named g c.requires.0 a.v _ c.requires.1 c.index_at.ensures).0
    (second_named g c.requires.0 a.v _ c.requires.1 c.index_at-2.ensures).0
    c.mark.ensures
    c.mark-2.ensures
    (eqb-true (word g (3 * a.v + 2)) mark (sym c.is_mark_at.ensures ∙ c.if-is_mark_at.true))

pub index_at-requires-3 : goal.index_at-requires-3
index_at-requires-3 c = inside c.args.v c.args.lent.now.nodes 2 _ (omega arith) c.requires.1 c.requires.0.held_nodes

pub mark-requires-3 : goal.mark-requires-3
mark-requires-3 c =
    let a = c.args in
    let g : Graph = graph (goal.at.mark-requires-3 c).Start in
    let d = eqb-false (word g (3 * a.v + 2)) mark (sym c.is_mark_at.ensures ∙ c.if-is_mark_at.false) in
    fits a.lent.now.inputs a.lent.now.nodes a.v _ _ _ (third_named g c.requires.0 a.v _ c.requires.1 d c.index_at-3.ensures).1 c.requires.1 c.requires.2 (c.mark-2.ensures.same ∙ c.mark.ensures.same)

pub returns : goal.returns
returns c =
    let a = c.args in
    let g : Graph = graph (goal.at.returns c).Start in
    let d = eqb-false (word g (3 * a.v + 2)) mark (sym c.is_mark_at.ensures ∙ c.if-is_mark_at.false) in
    named_three g a.v c.index_at.result c.index_at-2.result a.scratch.now _ _
    (first_named g c.requires.0 a.v _ c.requires.1 c.index_at.ensures).0
    (second_named g c.requires.0 a.v _ c.requires.1 c.index_at-2.ensures).0
    c.mark.ensures
    c.mark-2.ensures
    c.index_at-3.result _ d (third_named g c.requires.0 a.v _ c.requires.1 d c.index_at-3.ensures).0 c.mark-3.ensures
