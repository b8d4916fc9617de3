-- `flipped` meets its contract. From the law of a changed bit.
use Rattle.graph.proofs.Bits.{bit_flipped}
use Rattle.graph.proofs.table.flipped.Goals as goal

pub returns : goal.returns
returns c = bit_flipped 64 c.args.w c.args.k c.args.t c.requires
