-- `figures` meets its contract. From its callees' contracts.
use Rattle.std.proofs.Common.{refl, sym, ◌∙◌}
use Rattle.graph.proofs.Answers.{ends_call, accepted_is}
use Rattle.graph.proofs.Tests.{equal, unequal}
use Rattle.class_figures.specs.Call.{figures_call}
use Rattle.class_figures.proofs.Refusing.{roomy_figures}
use Rattle.class_figures.proofs.figures.Goals as goal

pub returns-in_err-check_figures : goal.returns-in_err-check_figures
unfolding figures_call
returns-in_err-check_figures c = ends_call _ _ _ _ _ c.from_residual.ensures.1 c.in_err-check_figures.ensures

pub all-requires : goal.all-requires
all-requires c = roomy_figures c.args.book.now (sym c.in_ok-check_figures.ensures)

pub returns-then-latest-eq0 : goal.returns-then-latest-eq0
unfolding figures_call
returns-then-latest-eq0 c =
    c.all.ensures ∙ equal c.args.latest 0 _ _ c.if-latest-eq0.true refl ∙ accepted_is _ _ (sym c.in_ok-check_figures.ensures)

pub latest-requires : goal.latest-requires
latest-requires c = roomy_figures c.args.book.now (sym c.in_ok-check_figures.ensures)

pub returns : goal.returns
unfolding figures_call
returns c =
    c.latest.ensures ∙ unequal c.args.latest 0 _ _ c.if-latest-eq0.false refl ∙ accepted_is _ _ (sym c.in_ok-check_figures.ensures)
