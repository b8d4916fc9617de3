-- `named_at` meets its contract. From the laws on ways.
use mathlib.Core.Path.{refl, sym, ◌∙◌}
use mathlib.Core.Logic.{inl}
use Prim.Native.Nat.{◌+◌, ◌*◌}
use native.Mathlib.Omega.{arith}
use Rattle.graph.specs.Graph.{Graph}
use Rattle.graph.proofs.Words.{is_word}
use Rattle.finder.proofs.Meets.{named_or}
use Rattle.finder.proofs.following.named_at.Goals as goal
use Rattle.finder.proofs.following.named_at.Goals.{Start}
use Rattle.finder.specs.Nodes.{nodes_in}

abbrev graph : Start → Graph
graph s = nodes_in s.args.graph.now

pub is_mark_at-requires : goal.is_mark_at-requires
is_mark_at-requires c =
    (omega (arith, c.requires.1, c.requires.2, c.requires.0.held_nodes), is_word (graph (goal.at.is_mark_at-requires c).Start) c.requires.0 (3 * c.args.w + c.args.k) (omega (arith, c.requires.1, c.requires.2)))

pub returns-then-is_mark_at : goal.returns-then-is_mark_at
returns-then-is_mark_at c = inl refl

pub returns : goal.returns
returns c =
    named_or (graph (goal.at.returns c).Start) c.requires.0 c.args.w c.requires.1 c.args.k c.index_at.result c.requires.2 (sym c.is_mark_at.ensures ∙ c.if-is_mark_at.false) c.index_at.ensures
