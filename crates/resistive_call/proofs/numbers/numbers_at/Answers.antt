-- `numbers_at` meets its contract. From those of a word, by the kind.
use mathlib.Core.Path.{◌≡◌, sym, ◌∙◌}
use Prim.Native.Nat.{◌+◌, ◌*◌}
use native.Mathlib.Omega.{arith}
use Rattle.graph.specs.Graph.{Graph, is_xor}
use Rattle.graph.proofs.Edge.{edge_early, third_majority, third_xor}
use Rattle.graph.proofs.Words.{readable}
use Rattle.resistive_call.specs.Keys.{word_keys}
use Rattle.resistive_call.proofs.Reading.{mark_even, mark_odd}
use Rattle.resistive_call.proofs.numbers.numbers_at.Goals as goal
use Rattle.resistive_call.proofs.numbers.numbers_at.Goals.{After-is_xor, Start}
use Rattle.graph.specs.Tables.{lent_graph, lent_table}

abbrev graph-of : Start → Graph
graph-of s = lent_graph s.args.lent.now

kind : (c : After-is_xor) → c.is_xor.result ≡ is_xor (graph-of (goal.at.After-is_xor c).Start) c.args.w
kind c = let a = c.args in c.is_xor.ensures a.lent.now.inputs a.lent.now.nodes a.lent.now.outputs (lent_table a.lent.now.output_table)

pub word_keys-x-requires : goal.word_keys-x-requires
word_keys-x-requires c = (c.requires.0, c.requires.1, omega arith, edge_early (graph-of (goal.at.word_keys-x-requires c).Start) (3 * c.args.w + 0) (omega arith), c.requires.2, c.requires.3)

pub word_keys-y-requires : goal.word_keys-y-requires
word_keys-y-requires c = (c.requires.0, c.requires.1, omega arith, edge_early (graph-of (goal.at.word_keys-y-requires c).Start) (3 * c.args.w + 1) (omega arith), c.requires.2, c.requires.3)

pub is_xor-requires : goal.is_xor-requires
is_xor-requires c = readable (graph-of (goal.at.is_xor-requires c).Start) c.requires.0.admitted c.args.w c.requires.1

pub returns-then-is_xor : goal.returns-then-is_xor
unfolding word_keys
returns-then-is_xor c =
    let a = c.args in
    let e = third_xor (graph-of (goal.at.returns-then-is_xor c).Start) a.w (sym (kind (goal.at.returns-then-is_xor c).After-is_xor) ∙ c.if-is_xor.true) in
    rw (c.word_keys-x.ensures, c.word_keys-y.ensures, mark_even (graph-of (goal.at.returns-then-is_xor c).Start) a.scratch.now a.v a.s (3 * a.w + 2) e, mark_odd (graph-of (goal.at.returns-then-is_xor c).Start) a.scratch.now a.v a.s (3 * a.w + 2) e)

pub word_keys-z-requires : goal.word_keys-z-requires
word_keys-z-requires c = (c.requires.0, c.requires.1, omega arith, third_majority (graph-of (goal.at.word_keys-z-requires c).Start) c.args.w (sym (kind (goal.at.word_keys-z-requires c).After-is_xor) ∙ c.if-is_xor.false), c.requires.2, c.requires.3)

pub returns : goal.returns
unfolding word_keys
returns c = rw (c.word_keys-x.ensures, c.word_keys-y.ensures, c.word_keys-z.ensures)
