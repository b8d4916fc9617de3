-- `class_of` meets its contract: the table in the code is the table of classes. Assumes nothing.
use mathlib.Core.Path.{refl}
use Rattle.hidden.specs.Class.{classes}
use Rattle.majority_call.proofs.bytes.class_of.Goals as goal

pub returns : goal.returns
unfolding classes
returns c = refl
