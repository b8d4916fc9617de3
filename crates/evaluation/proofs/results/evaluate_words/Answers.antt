-- `results::evaluate_words` meets its contract. From its callees' contracts.
use mathlib.Core.Path.{◌≡◌, sym, ap, ◌∙◌}
use mathlib.Core.List.{List, ◌++◌}
use Prim.Native.Nat.{ℕ}
use native.Mathlib.Omega.{arith}
use lib.ListN.{length, take, drop}
use lib.Seq.{length-take-le}
use Rattle.graph.specs.Graph.{Graph}
use Rattle.evaluation.proofs.Outputs.{node_below, output_words}
use Rattle.evaluation.proofs.results.evaluate_words.Goals as goal
use Rattle.graph.specs.Tables.{lent_graph}

pub fill_nodes-requires : goal.fill_nodes-requires
fill_nodes-requires c =
    let a = c.args in
    let g : Graph = lent_graph a.lent.now in
    (c.requires.1, c.requires.2, c.requires.0.few_nodes, node_below g c.requires.0)

pub slice_bounds-words-end-2 : goal.slice_bounds-words-end-2
slice_bounds-words-end-2 c =
    let a = c.args in
    sym (length-take-le a.lent.now.nodes c.fill_nodes.new.scratch (omega (arith, c.fill_nodes.auto.scratch)))

pub fill_results-requires : goal.fill_results-requires
fill_results-requires c =
    let a = c.args in
    let e : length (take a.lent.now.nodes c.fill_nodes.new.scratch) ≡ a.lent.now.nodes =
    length-take-le a.lent.now.nodes c.fill_nodes.new.scratch (omega (arith, c.fill_nodes.auto.scratch)) in
    (c.requires.1, omega (arith, c.requires.0.few_inputs, c.requires.0.few_nodes), c.requires.0.held_outputs, c.requires.3, rw e c.requires.0.output_below)

pub returns : goal.returns
returns c =
    let a = c.args in
    let g : Graph = lent_graph a.lent.now in
    c.fill_results.ensures
    ∙ ap (λ (l : List ℕ). l ++ drop a.lent.now.outputs a.results.now)
    (output_words g a.input_words.now (take a.lent.now.nodes c.fill_nodes.new.scratch) c.fill_nodes.ensures)
