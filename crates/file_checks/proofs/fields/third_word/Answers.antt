-- `third_word` is the mark or the third literal of a whole node field. From the number that its field ends with.
use mathlib.Core.Path.{◌∙◌}
use Rattle.file_checks.proofs.Checked.{third_last}
use Rattle.file_checks.proofs.fields.third_word.Goals as goal

pub returns : goal.returns
returns c = c.unless_xor.ensures ∙ rw c.four.ensures (third_last c.args.s.now _ c.last_place.ensures.0)
