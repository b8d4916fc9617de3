-- `find` meets its contract: a refusal changes nothing, and an accepted call is the pass and the drop. From the laws on the whole finder.
use Rattle.std.proofs.Common.{ℕ, length, refl, sym}
use Rattle.graph.specs.Graph.{Graph}
use Rattle.graph.specs.Literals.{graph_in}
use Rattle.finder.proofs.Whole.{ends_find, accepted_call, fine}
use Rattle.finder.proofs.find.Goals as goal
use Rattle.finder.proofs.find.Goals.{Start}

abbrev graph : Start → ℕ → Graph
graph s n = let a = s.args in graph_in a.inputs n a.outputs a.node_table.now a.node_bits.now a.output_table.now a.output_bits.now

pub returns-in_err-check_find : goal.returns-in_err-check_find
returns-in_err-check_find c =
    let a = c.args in
    record {
      outcome = ends_find _ _ (graph (goal.at.returns-in_err-check_find c).Start) a.nodes a.locks.now (length a.scratch.now) c.from_residual.ensures.1 c.in_err-check_find.ensures;
      scratch = λ z. refl;
    }

pub pass_and_drop-requires : goal.pass_and_drop-requires
pass_and_drop-requires c =
    let f = fine (graph (goal.at.pass_and_drop-requires c).Start c.args.nodes) c.args.locks.now (length c.args.scratch.now) (sym c.in_ok-check_find.ensures) in
    (f.admitted, f.locked, f.long)

pub returns : goal.returns
returns c =
    let o = c.pass_and_drop in
    record { outcome = accepted_call (graph (goal.at.returns c).Start c.args.nodes) c.args.locks.now (length c.args.scratch.now) _ o.result _ refl (sym c.in_ok-check_find.ensures) o.ensures.0 o.ensures.1; scratch = λ y. absurd (y refl) }
