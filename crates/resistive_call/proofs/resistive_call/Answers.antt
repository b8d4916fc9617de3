-- `resistive_call` meets its contract: a refusal changes nothing, and an accepted call is the rewriting of the root's tree.
use mathlib.Core.Path.{refl, sym}
use lib.ListN.{length}
use Rattle.graph.specs.Graph.{Graph, graph_of}
use Rattle.moves.proofs.Ends.{ends_outcome}
use Rattle.resistive.specs.Resistive.{resistive_call}
use Rattle.tree_call.proofs.Refused.{accepted_by}
use Rattle.resistive_call.proofs.Calling.{accepted_call, accepted_number}
use Rattle.graph.specs.Literals.{literals}
use Rattle.resistive_call.proofs.resistive_call.Goals as goal

pub returns-in_err-check_tree : goal.returns-in_err-check_tree
unfolding resistive_call
returns-in_err-check_tree c = record { outcome = ends_outcome _ _ _ _ _ _ c.from_residual.ensures.1 c.in_err-check_tree.ensures; scratch = λ z. refl }

pub rewrite_still-requires : goal.rewrite_still-requires
rewrite_still-requires c =
    let a = c.args in
    let g : Graph = graph_of a.inputs a.nodes a.outputs (literals a.node_table.now a.node_bits.now) (literals a.output_table.now a.output_bits.now) in
    accepted_by g a.locks.now (length a.scratch.now) a.root (sym c.in_ok-check_tree.ensures)

pub returns : goal.returns
returns c =
    let a = c.args in
    let g : Graph = graph_of a.inputs a.nodes a.outputs (literals a.node_table.now a.node_bits.now) (literals a.output_table.now a.output_bits.now) in
    let t = c.rewrite_still.ensures in
    record {
      outcome = accepted_call g a.locks.now (length a.scratch.now) a.root _ (sym c.in_ok-check_tree.ensures) t;
      scratch = λ y. absurd (y (accepted_number g a.locks.now a.root _ _ t));
    }
