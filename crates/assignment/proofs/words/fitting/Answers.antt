-- `words::fitting` meets its contract: each of the three. From the laws on bits.
use Rattle.assignment.proofs.Blocks.{fits_two, fits_one, fits_zero}
use native.Mathlib.Omega.{arith}
use Rattle.assignment.proofs.words.fitting.Goals as goal

pub returns-then-want-eq2 : goal.returns-then-want-eq2
returns-then-want-eq2 c = λ j h. fits_two c.args.word c.args.want j h c.if-want-eq2.true

pub returns-then-want-eq1 : goal.returns-then-want-eq1
returns-then-want-eq1 c = λ j h. fits_one c.args.word c.args.want j c.if-want-eq1.true

pub returns : goal.returns
returns c = λ j h. fits_zero c.args.word c.args.want j h (omega arith)
