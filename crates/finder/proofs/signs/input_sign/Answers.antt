-- `input_sign` meets its contract, by its definition. Assumes nothing.
use mathlib.Core.Path.{refl}
use Rattle.finder.specs.Signs.{input_sign}
use Rattle.finder.proofs.signs.input_sign.Goals as goal

pub returns : goal.returns
unfolding input_sign
returns c = refl
