-- `pair_calls_at` makes the pair calls at the words of a node in order; an XOR has two.
use mathlib.Core.Path.{sym, ◌∙◌}
use native.Mathlib.Omega.{arith}
use Rattle.graph.specs.Graph.{Graph}
use Rattle.graph.proofs.Words.{readable}
use Rattle.settling.proofs.Stepping.{pair_idle, pairs_phase, first_words, third_word, no_third_word}
use Rattle.settling.proofs.phases.pair_calls_at.Goals as goal
use Rattle.settling.proofs.phases.pair_calls_at.Goals.{Start}
use Rattle.graph.specs.Tables.{lent_graph, lent_table}

abbrev graph-of : Start → Graph
graph-of s = lent_graph s.args.lent.now

pub pair_call_at-a-requires : goal.pair_call_at-a-requires
pair_call_at-a-requires c =
    let r = c.requires.3 in
    (c.requires.0, c.requires.1, first_words (graph-of (goal.at.pair_call_at-a-requires c).Start) c.args.v 1 (omega arith) (omega arith), c.requires.2, record { low = omega (arith, r.low); low_after = omega (arith, r.low_after) }, c.requires.4)

pub pair_call_at-b-requires : goal.pair_call_at-b-requires
pair_call_at-b-requires c =
    let r = c.requires.3 in
    let x₁ = c.pair_call_at-a.ensures in
    (x₁.ordered, c.requires.1, first_words (graph-of (goal.at.pair_call_at-b-requires c).Start) c.args.v 2 (omega arith) (omega arith), x₁.count, record { low = omega (arith, r.low, x₁.few); low_after = omega (arith, r.low_after, x₁.few_after) }, c.requires.4)

pub is_xor-requires : goal.is_xor-requires
is_xor-requires c = readable (graph-of (goal.at.is_xor-requires c).Start) c.requires.0.admitted c.args.v c.requires.1

pub returns-then-is_xor : goal.returns-then-is_xor
returns-then-is_xor c =
    let x = c.is_xor in
    let x₂ = c.pair_call_at-b.ensures in
    let none = no_third_word (graph-of (goal.at.returns-then-is_xor c).Start) c.args.v (sym (x.ensures c.args.lent.now.inputs c.args.lent.now.nodes c.args.lent.now.outputs (lent_table c.args.lent.now.output_table)) ∙ c.if-is_xor.true) in
    pairs_phase c.args.lent.now.locks.now c.args.v _ _ _ _ _ _ _ _ _ c.pair_call_at-a.ensures x₂ (pair_idle (graph-of (goal.at.returns-then-is_xor c).Start) _ x₂.ordered _ c.args.v 3 _ none x₂.count)

pub pair_call_at-requires : goal.pair_call_at-requires
pair_call_at-requires c =
    let x = c.is_xor in
    let r = c.requires.3 in
    let x₁ = c.pair_call_at-a.ensures in
    let x₂ = c.pair_call_at-b.ensures in (
      x₂.ordered,
      c.requires.1,
      third_word (graph-of (goal.at.pair_call_at-requires c).Start) c.args.v (sym (x.ensures c.args.lent.now.inputs c.args.lent.now.nodes c.args.lent.now.outputs (lent_table c.args.lent.now.output_table)) ∙ c.if-is_xor.false),
      x₂.count,
      record { low = omega (arith, r.low, x₁.few, x₂.few); low_after = omega (arith, r.low_after, x₁.few_after, x₂.few_after) },
      c.requires.4,
    )

pub returns : goal.returns
returns c =
    pairs_phase c.args.lent.now.locks.now c.args.v _ _ _ _ _ _ _ _ _ c.pair_call_at-a.ensures c.pair_call_at-b.ensures c.pair_call_at.ensures
