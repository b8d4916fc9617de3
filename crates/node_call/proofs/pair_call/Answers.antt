-- `pair_call` meets its contract. From the laws on faults and outcomes.
use mathlib.Core.Path.{sym, ◌∙◌}
use Rattle.graph.specs.Graph.{Graph, graph_of}
use Rattle.graph.proofs.Answers.{accepted_outcome}
use Rattle.moves.specs.Call.{pair_call, pair_number, pair_rewrite}
use Rattle.moves.proofs.Ends.{ends_outcome}
use Rattle.graph.specs.Literals.{literals}
use Rattle.node_call.proofs.pair_call.Goals as goal

pub returns-in_err-check_pair : goal.returns-in_err-check_pair
unfolding pair_call
returns-in_err-check_pair c = ends_outcome _ _ _ _ _ _ c.from_residual.ensures.1 c.in_err-check_pair.ensures

pub returns : goal.returns
unfolding pair_call
returns c =
    let a = c.args in
    let g : Graph = graph_of a.inputs a.nodes a.outputs (literals a.node_table.now a.node_bits.now) (literals a.output_table.now a.output_bits.now) in
    c.rewrite_named.ensures ∙ accepted_outcome (pair_number g a.locks.now a.node a.word) g (pair_rewrite g a.locks.now a.node a.word) (sym c.in_ok-check_pair.ensures)
