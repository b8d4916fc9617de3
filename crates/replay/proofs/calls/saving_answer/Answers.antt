-- `saving_answer` meets its contract. From those of its answer's number and of both numbers of its saving.
use mathlib.Core.Path.{refl, ◌∙◌}
use Rattle.moves.specs.Call.{told_saving, saving_answer}
use Rattle.graph.proofs.Difference.{read_as_lem}
use Rattle.answers.proofs.Same.{numbered}
use Rattle.replay.proofs.One.{answers_told}
use Rattle.replay.proofs.calls.saving_answer.Goals as goal

pub returns : goal.returns
returns c =
    let n = c.refusal_number-number.ensures ∙ numbered told_saving c.args.answer (λ x. refl) in
    let a = answers_told (saving_answer c.args.answer) _ c.saving_told-saving.result _ n c.saving_told-saving.ensures in
    record { number = a.number; own = read_as_lem _ c.result-1.given ∙ a.own; others = read_as_lem _ c.result-2-1.given ∙ a.others; nodes = a.nodes }
