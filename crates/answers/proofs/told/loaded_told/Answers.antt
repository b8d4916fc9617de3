-- `loaded_told` meets its contract, case by case.
use mathlib.Core.Path.{sym, ap}
use Rattle.tagged_file.specs.Load.{loaded_answer}
use Rattle.answers.specs.Told.{told}
use Rattle.answers.proofs.told.loaded_told.Goals as goal

pub returns-in-Ok : goal.returns-in-Ok
returns-in-Ok c = sym (ap (λ a. told (loaded_answer a) c.args.before) c.in-Ok.is)
