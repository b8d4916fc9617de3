-- `value_answer` meets its contract: a saving is told in its place.
use Rattle.std.proofs.Common.{rules, refl}
use Rattle.std.proofs.Common.{ℕ, ◌∷◌, []}
use Rattle.graph.specs.Answer.{accepted}
use Rattle.replay.specs.Replay.{value_of}
use Rattle.replay.proofs.One.{by_map}
use Rattle.replay.proofs.calls.value_answer.Goals as goal

pub returns : goal.returns
returns c =
    by_map value_of (λ (n : ℕ). accepted (n ∷ [])) c.args.answer c.map-saving.result _ _ c.map-saving.ensures.cases (λ k. refl) (λ x s p. record { number = refl; own = search rules; others = search rules }) c.saving_answer.ensures
