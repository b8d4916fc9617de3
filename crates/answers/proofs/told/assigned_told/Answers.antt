-- `assigned_told` meets its contract, case by case.
use Rattle.std.proofs.Common.{◌≡◌, Ok, Some}
use mathlib.Core.Path.{sym, ap, ◌∙◌}
use Rattle.assignment.specs.Assignment.{assigned_answer}
use Rattle.answers.specs.Told.{told}
use Rattle.answers.proofs.told.assigned_told.Goals as goal

pub returns-in-Ok-Some : goal.returns-in-Ok-Some
returns-in-Ok-Some c =
    let o = c.in-Ok-Some in
    let e : o.field-0 ≡ Some o.number = cc in
    sym (ap (λ a. told (assigned_answer a) c.args.before) (o.is ∙ ap Ok e))
