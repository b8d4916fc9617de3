-- `find_assignment` meets its contract: a fault is refused, and else the search answers. From its callees' contracts.
use Rattle.std.proofs.Common.{List, ℕ, sym, ap, refl, ◌∙◌}
use lib.ListN.{length}
use Rattle.graph.specs.Answer.{accepted}
use Rattle.graph.specs.Tables.{lent_graph}
use Rattle.graph.proofs.Answers.{ends_call, accepted_is}
use Rattle.assignment.specs.Assignment.{found_values, assignment_call}
use Rattle.assignment.proofs.Refusing.{searchable}
use Rattle.assignment.proofs.find_assignment.Goals as goal

pub returns-in_err-check_assignment : goal.returns-in_err-check_assignment
unfolding assignment_call
returns-in_err-check_assignment c = record { call = ends_call _ _ _ _ _ c.from_residual.ensures.1 c.in_err-check_assignment.ensures; scratch = λ z. refl }

pub invariant_of-question : goal.invariant_of-question
invariant_of-question c =
    let a = c.args in
    record { searchable = (searchable (lent_graph a.lent.now) a.lent.now.locks.now a.wanted.now (length a.scratch.now) (sym c.in_ok-check_assignment.ensures)).0 }

pub search-requires : goal.search-requires
search-requires c =
    let a = c.args in
    (searchable (lent_graph a.lent.now) a.lent.now.locks.now a.wanted.now (length a.scratch.now) (sym c.in_ok-check_assignment.ensures)).1

pub returns : goal.returns
unfolding assignment_call
returns c =
    record {
      call = ap (λ (l : List ℕ). accepted (found_values l)) c.search.ensures ∙ accepted_is _ _ (sym c.in_ok-check_assignment.ensures);
      scratch = λ k. absurd (k refl);
    }
