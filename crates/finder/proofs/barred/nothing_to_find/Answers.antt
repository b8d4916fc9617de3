-- `nothing_to_find` meets its contract. From the laws on nodes that name an input.
use mathlib.Core.Path.{sym, ◌∙◌}
use mathlib.Core.Bool.{false≢true}
use Prim.Native.Nat.{◌+◌, ◌*◌}
use native.Mathlib.Omega.{arith}
use Rattle.graph.specs.Graph.{Graph}
use Rattle.graph.proofs.Words.{is_word}
use Rattle.finder.proofs.Barring.{second_input, third_input}
use Rattle.finder.proofs.barred.nothing_to_find.Goals as goal
use Rattle.finder.proofs.barred.nothing_to_find.Goals.{Start}
use Rattle.finder.specs.Nodes.{nodes_in}

abbrev graph : Start → Graph
graph s = nodes_in s.args.graph.now

pub is_mark_at-requires : goal.is_mark_at-requires
is_mark_at-requires c =
    (omega (arith, c.requires.1, c.requires.0.held_nodes), is_word (graph (goal.at.is_mark_at-requires c).Start) c.requires.0 (3 * c.args.v + 2) (omega (arith, c.requires.1)))

pub returns-then-is_mark_at : goal.returns-then-is_mark_at
returns-then-is_mark_at c e = absurd (false≢true e)

pub index_at-requires : goal.index_at-requires
index_at-requires c = omega (arith, c.requires.1, c.requires.0.held_nodes)

pub returns-then-index_at-ne0 : goal.returns-then-index_at-ne0
returns-then-index_at-ne0 c e = absurd (false≢true e)

pub index_at-requires-2 : goal.index_at-requires-2
index_at-requires-2 c = omega (arith, c.requires.1, c.requires.0.held_nodes)

pub returns-then-is_input : goal.returns-then-is_input
returns-then-is_input c e =
    second_input (graph (goal.at.returns-then-is_input c).Start) c.requires.0 c.args.v c.requires.1 (sym c.is_mark_at.ensures ∙ c.if-is_mark_at.false) c.index_at.result c.index_at.ensures (omega (arith, c.if-index_at-ne0.false))
    c.index_at-2.result c.index_at-2.ensures (c.is_input.ensures c.if-is_input.true)

pub index_at-requires-3 : goal.index_at-requires-3
index_at-requires-3 c = omega (arith, c.requires.1, c.requires.0.held_nodes)

pub returns : goal.returns
returns c e =
    third_input (graph (goal.at.returns c).Start) c.requires.0 c.args.v c.requires.1 (sym c.is_mark_at.ensures ∙ c.if-is_mark_at.false) c.index_at.result c.index_at.ensures (omega (arith, c.if-index_at-ne0.false))
    c.index_at-3.result c.index_at-3.ensures (c.is_input-2.ensures e)
