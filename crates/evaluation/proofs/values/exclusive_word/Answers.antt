-- `values::exclusive_word` meets its contract. From the laws on bits.
use Rattle.graph.specs.Value.{exclusive}
use Rattle.graph.proofs.Bits.{bit_xor_lem}
use Rattle.evaluation.proofs.values.exclusive_word.Goals as goal

pub returns : goal.returns
unfolding exclusive
returns c = λ j. bit_xor_lem j c.args.x c.args.y
