-- `is_plain` meets its contract. From the laws on plain nodes.
use mathlib.Core.Path.{sym, ◌∙◌}
use mathlib.Core.List.{List}
use Prim.Native.Nat.{ℕ, ◌+◌, ◌*◌}
use native.Mathlib.Omega.{arith}
use borrow.Author.Tests.{eqb-false}
use Rattle.graph.specs.Graph.{Graph, mark, word}
use Rattle.graph.proofs.Words.{is_word}
use Rattle.finder.proofs.Named.{first_named, second_named, third_named}
use Rattle.finder.proofs.Plain.{plain_xor, plain_majority}
use Rattle.finder.proofs.passing.is_plain.Goals as goal
use Rattle.finder.proofs.passing.is_plain.Goals.{Start}
use Rattle.graph.specs.Tables.{lent_table}
use Rattle.finder.specs.Nodes.{nodes_in}

abbrev graph : Start → Graph
graph s = nodes_in s.args.graph.now

abbrev words : Start → List ℕ
words s = lent_table s.args.graph.now.table

pub is_mark_at-requires : goal.is_mark_at-requires
is_mark_at-requires c =
    (omega (arith, c.requires.1, c.requires.0.held_nodes), is_word (graph (goal.at.is_mark_at-requires c).Start) c.requires.0 (3 * c.args.v + 2) (omega (arith, c.requires.1)))

pub returns-then-is_mark_at : goal.returns-then-is_mark_at
returns-then-is_mark_at c =
    plain_xor c.args.graph.now.inputs c.args.graph.now.nodes (words (goal.at.returns-then-is_mark_at c).Start) c.args.v (sym c.is_mark_at.ensures ∙ c.if-is_mark_at.true)

pub index_at-x-requires : goal.index_at-x-requires
index_at-x-requires c = omega (arith, c.requires.1, c.requires.0.held_nodes)

pub index_at-y-requires : goal.index_at-y-requires
index_at-y-requires c = omega (arith, c.requires.1, c.requires.0.held_nodes)

pub index_at-z-requires : goal.index_at-z-requires
index_at-z-requires c = omega (arith, c.requires.1, c.requires.0.held_nodes)

pub returns : goal.returns
returns c =
    let m = sym c.is_mark_at.ensures ∙ c.if-is_mark_at.false in
    let a = c.args in
    plain_majority a.graph.now.inputs a.graph.now.nodes (words (goal.at.returns c).Start) a.v _ _ _ _ m
    (first_named (graph (goal.at.returns c).Start) c.requires.0 a.v _ c.requires.1 c.index_at-x.ensures).0
    (second_named (graph (goal.at.returns c).Start) c.requires.0 a.v _ c.requires.1 c.index_at-y.ensures).0
    (third_named (graph (goal.at.returns c).Start) c.requires.0 a.v _ c.requires.1 (eqb-false (word (graph (goal.at.returns c).Start) (3 * a.v + 2)) mark m) c.index_at-z.ensures).0
    c.differ.ensures
