-- `values::majority_word` meets its contract. From the laws on bits.
use Rattle.evaluation.proofs.Bits.{bit_majority}
use Rattle.evaluation.proofs.values.majority_word.Goals as goal

pub returns : goal.returns
returns c = λ j. bit_majority j c.args.x c.args.y c.args.z
