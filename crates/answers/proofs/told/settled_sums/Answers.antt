-- `settled_sums` meets its contract, case by case.
use mathlib.Core.Path.{sym, ap, ◌∙◌}
use borrow.Author.Rules.{rules}
use Rattle.graph.proofs.Difference.{read_as_lem}
use Rattle.settling.specs.Settle.{settled_answer}
use Rattle.answers.specs.Told.{told_signed}
use Rattle.answers.proofs.Same.{two}
use Rattle.answers.proofs.told.settled_sums.Goals as goal

pub returns-in-Ok : goal.returns-in-Ok
returns-in-Ok c =
    two (read_as_lem c.in-Ok.settled.own (search rules)) (read_as_lem c.in-Ok.settled.others (search rules)) ∙ sym (ap (λ a. told_signed (settled_answer a) c.args.before) c.in-Ok.is)
