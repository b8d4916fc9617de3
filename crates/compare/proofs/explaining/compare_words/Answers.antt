-- `compare_words` meets its contract: indices, then complement bits. From the laws of what two graphs of one wiring come to.
use mathlib.Core.Path.{◌∙◌}
use mathlib.Core.List.{List}
use native.Mathlib.Omega.{arith}
use Prim.Native.Nat.{ℕ, ◌≤◌}
use lib.Dec.{eqb}
use Rattle.graph.specs.Graph.{Graph}
use Rattle.graph.specs.Literals.{graph_in}
use Rattle.graph.proofs.Literals.{held_literals}
use Rattle.compare.specs.Compare.{places, wire_in, wired_to}
use Rattle.compare.specs.Telling.{apart}
use Rattle.compare.proofs.Agreeing.{Alike}
use Rattle.compare.proofs.Explained.{words_wired, words_told, lent_sums}
use Rattle.compare.proofs.Passing.{passing_le}
use Rattle.compare.proofs.explaining.compare_words.Goals as goal
use Rattle.compare.proofs.explaining.compare_words.Goals.{Start}
use Rattle.graph.specs.Tables.{lent_graph, lent_table}

abbrev first : Start → Graph
first s = lent_graph s.args.first.now

abbrev seconds : Start → List ℕ
seconds s = lent_table s.args.second.now.node_table

abbrev second-outs : Start → List ℕ
second-outs s = lent_table s.args.second.now.output_table

abbrev second : Start → Graph
second s = graph_in s.args.first.now.inputs s.args.first.now.nodes s.args.first.now.outputs s.args.second.now.node_table.indices.now s.args.second.now.node_table.bits.now s.args.second.now.output_table.indices.now s.args.second.now.output_table.bits.now

wired-le : (g h : Graph) → wired_to g h ≤ places g
unfolding wired_to
wired-le g h = passing_le (places g) (λ p. eqb (wire_in g p) (wire_in h p))

pub returns-then-place-first : goal.returns-then-place-first
returns-then-place-first c =
    words_wired (first (goal.at.returns-then-place-first c).Start) (second (goal.at.returns-then-place-first c).Start) c.args.moves.now c.wired_to-place.result _ c.wired_to-place.ensures c.if-place-first.true c.index_told.ensures

pub explain-requires : goal.explain-requires
explain-requires c =
    let a = c.args in (
      c.requires.0,
      omega (arith, c.requires.1.held_nodes, held_literals a.second.now.node_table.indices.now a.second.now.node_table.bits.now),
      omega (arith, c.requires.1.held_outputs, held_literals a.second.now.output_table.indices.now a.second.now.output_table.bits.now),
      c.requires.2,
    )

pub returns : goal.returns
returns c =
    let a = c.args in
    let w : Alike (first (goal.at.returns c).Start) (seconds (goal.at.returns c).Start) (second-outs (goal.at.returns c).Start)
    = record { admitted = c.requires.0; admitted_second = c.requires.1; wired = omega (arith, c.if-place-first.false, c.wired_to-place.ensures, wired-le (first (goal.at.returns c).Start) (second (goal.at.returns c).Start)) } in
    c.explain.ensures
    ∙ words_told (first (goal.at.returns c).Start) (seconds (goal.at.returns c).Start) (second-outs (goal.at.returns c).Start) w (apart (first (goal.at.returns c).Start).nodes a.second.now.node_table.bits.now) (apart (first (goal.at.returns c).Start).outputs a.second.now.output_table.bits.now)
    (lent_sums a.first.now.inputs a.first.now.nodes a.first.now.outputs a.first.now.node_table.indices.now a.first.now.node_table.bits.now a.first.now.output_table.indices.now a.first.now.output_table.bits.now a.second.now.node_table.indices.now a.second.now.node_table.bits.now a.second.now.output_table.indices.now a.second.now.output_table.bits.now w) a.moves.now
