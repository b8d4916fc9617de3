-- `moved_third` meets its contract. From the laws on one node's words.
use mathlib.Core.Path.{refl, sym, ◌∙◌}
use Prim.Native.Nat.{ℕ}
use native.Mathlib.Omega.{arith}
use mathlib.Core.List.{List}
use Rattle.finder.proofs.Compact.{third_word, third_stays, third_moves, third_holds}
use Rattle.finder.proofs.compacting.moved_third.Goals as goal
use Rattle.finder.proofs.compacting.moved_third.Goals.{Start}
use Rattle.graph.specs.Tables.{lent_table}

abbrev words : Start → List ℕ
words s = lent_table s.args.node_table.now

pub is_mark_at-requires : goal.is_mark_at-requires
is_mark_at-requires c = (omega (arith, c.requires.1), third_word c.args.inputs c.args.scratch.now (words (goal.at.is_mark_at-requires c).Start) c.args.v c.requires.2)

pub returns-then-is_mark_at : goal.returns-then-is_mark_at
returns-then-is_mark_at c =
    third_stays c.args.inputs c.args.scratch.now (words (goal.at.returns-then-is_mark_at c).Start) c.args.v (sym c.is_mark_at.ensures ∙ c.if-is_mark_at.true)

pub edge_at-requires : goal.edge_at-requires
edge_at-requires c =
    (omega (arith, c.requires.1), (third_holds c.args.inputs c.args.scratch.now (words (goal.at.edge_at-requires c).Start) c.args.v c.requires.2 _ (sym c.is_mark_at.ensures ∙ c.if-is_mark_at.false) refl).low)

pub renumbered-requires : goal.renumbered-requires
renumbered-requires c =
    third_holds c.args.inputs c.args.scratch.now (words (goal.at.renumbered-requires c).Start) c.args.v c.requires.2 _ (sym c.is_mark_at.ensures ∙ c.if-is_mark_at.false) c.edge_at.ensures

pub returns : goal.returns
returns c =
    third_moves c.args.inputs c.args.scratch.now (words (goal.at.returns c).Start) c.args.v _ _ (sym c.is_mark_at.ensures ∙ c.if-is_mark_at.false) c.edge_at.ensures c.renumbered.ensures
