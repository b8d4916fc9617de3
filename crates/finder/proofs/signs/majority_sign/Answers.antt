-- `majority_sign` meets its contract. From the laws on bits.
use Rattle.evaluation.proofs.Bits.{bit_majority}
use Rattle.finder.proofs.signs.majority_sign.Goals as goal

pub returns : goal.returns
returns c = λ j. bit_majority j c.args.x c.args.y c.args.z
