-- `nearer` meets its contract.
use mathlib.Core.Path.{refl}
use mathlib.Core.Logic.{inl, inr}
use Rattle.finder.proofs.down.nearer.Goals as goal

pub returns-then-best-eq0 : goal.returns-then-best-eq0
returns-then-best-eq0 c = inr refl

pub returns-then-d-e : goal.returns-then-d-e
returns-then-d-e c = inl refl

pub returns-then-e-d : goal.returns-then-e-d
returns-then-e-d c = inr refl

pub returns-then-index-best : goal.returns-then-index-best
returns-then-index-best c = inr refl

pub returns : goal.returns
returns c = inl refl
