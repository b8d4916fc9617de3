-- `values::turned` meets its contract: xor with a mask that is b in every place. From the laws on bits.
use Rattle.evaluation.proofs.Gather.{turned_is}
use Rattle.evaluation.proofs.values.turned.Goals as goal

pub returns : goal.returns
returns c = turned_is c.args.word c.args.b c.ranges.word.fits c.requires
