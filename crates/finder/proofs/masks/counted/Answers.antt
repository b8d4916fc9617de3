-- `counted` meets its contract.
use mathlib.Core.Path.{refl, sym, ◌∙◌}
use mathlib.Core.Bool.{true≢false}
use Rattle.finder.proofs.masks.counted.Goals as goal

pub returns-then-here : goal.returns-then-here
returns-then-here c = (λ e. refl, λ e. absurd (true≢false (sym c.if-here.true ∙ e)))

pub returns : goal.returns
returns c = (λ e. absurd (true≢false (sym e ∙ c.if-here.false)), λ e. refl)
