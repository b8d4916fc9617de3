-- `majority_call` meets its contract: a refusal changes nothing, and an accepted call is what `decide` gives. From the laws on the whole call.
use Rattle.std.proofs.Common.{length, refl, sym}
use Rattle.graph.specs.Graph.{Graph}
use Rattle.graph.specs.Literals.{graph_in}
use Rattle.moves.proofs.Ends.{ends_outcome}
use Rattle.hidden.specs.Truth.{Triple, triple}
use Rattle.hidden.specs.Call.{majority_call}
use Rattle.majority_call.proofs.Whole.{with_outputs, accepted_call, accepted_number, fine, bare_admitted}
use Rattle.majority_call.proofs.majority_call.Goals as goal
use Rattle.majority_call.proofs.majority_call.Goals.{Start}

abbrev graph : Start → Graph
graph s = graph_in s.args.inputs s.args.nodes s.args.outputs s.args.node_table.now s.args.node_bits.now s.args.output_table.now.indices.now s.args.output_table.now.bits.now

abbrev three : Start → Triple
three s = triple s.args.one s.args.two s.args.three

pub returns-in_err-check_majority : goal.returns-in_err-check_majority
unfolding majority_call
returns-in_err-check_majority c = record { outcome = ends_outcome _ _ _ _ _ _ c.from_residual.ensures.1 c.in_err-check_majority.ensures; scratch = λ z. refl }

pub decide-requires : goal.decide-requires
decide-requires c =
    let s = (goal.at.decide-requires c).Start in
    let f = fine (graph s) c.args.locks.now (length c.args.scratch.now) (three s) c.args.node (sym c.in_ok-check_majority.ensures) in
    (bare_admitted c.args.inputs c.args.nodes c.args.outputs (graph s).nodes (graph s).outputs f.admitted, f.after_inputs, f.within, f.rising, f.long)

pub returns : goal.returns
returns c =
    let a = c.args in
    let s = (goal.at.returns c).Start in
    let e = with_outputs a.inputs a.nodes a.outputs (graph s).nodes (graph s).outputs (three s) _ _ a.node c.decide.ensures in
    let l = length a.scratch.now in
    record {
      outcome = accepted_call (graph s) a.locks.now l (three s) a.node _ (sym c.in_ok-check_majority.ensures) e;
      scratch = λ y. absurd (y (accepted_number (graph s) a.locks.now l (three s) a.node _ e));
    }
