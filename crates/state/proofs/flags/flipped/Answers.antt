-- `flipped` meets its contract. From the law of a changed bit.
use Rattle.graph.proofs.Bits.{bit_flipped}
use Rattle.state.proofs.flags.flipped.Goals as goal

pub returns : goal.returns
returns c = bit_flipped 32 c.args.w c.args.k 1 c.requires
