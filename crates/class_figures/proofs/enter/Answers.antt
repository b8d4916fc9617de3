-- `enter` meets its contract: what is tested early and what settling refuses is refused, and else the settled graph is entered. From its
-- callees' contracts.
use Rattle.std.proofs.Common.{refl, sym, ap, ◌∙◌}
use Rattle.graph.proofs.Answers.{number_some}
use Rattle.class_figures.specs.Call.{class_outcome}
use Rattle.class_figures.proofs.Refusing.{roomy_early}
use Rattle.class_figures.proofs.Answering.{ends_early, ends_late, countable, class_is}
use Rattle.class_figures.proofs.enter.Goals as goal

pub returns-in_err-check_early : goal.returns-in_err-check_early
returns-in_err-check_early c =
    record { call = ends_early _ _ _ _ _ _ _ c.from_residual.ensures.1 c.in_err-check_early.ensures; scratch = λ z. refl }

pub returns-in_err-settled : goal.returns-in_err-settled
returns-in_err-settled c =
    let e = c.in_err-settled.ensures in
    record { call = ends_late _ _ _ _ _ _ _ _ c.from_residual-in_err-settled.ensures.1 e.call (sym c.in_ok-check_early.ensures); scratch = λ z. e.scratch (number_some _) }

pub enter_settled-requires : goal.enter_settled-requires
enter_settled-requires c =
    (roomy_early _ _ (sym c.in_ok-check_early.ensures), countable _ _ _ _ _ c.in_ok-settled.ensures.call refl)

pub returns : goal.returns
returns c = record {
  call = ap (class_outcome _ _) c.enter_settled.ensures
      ∙ class_is c.args.book.now _ c.args.locks.now _ _ _ c.in_ok-settled.ensures.call (sym c.in_ok-check_early.ensures) refl;
  scratch = λ z. absurd (z refl);
}
