-- `figures_told` meets its contract, case by case.
use mathlib.Core.Path.{sym, ap}
use Rattle.class_figures.specs.Call.{figures_answer}
use Rattle.answers.specs.Told.{told}
use Rattle.answers.proofs.told.figures_told.Goals as goal

pub returns-in-Ok : goal.returns-in-Ok
returns-in-Ok c = sym (ap (λ a. told (figures_answer a) c.args.before) c.in-Ok.is)
