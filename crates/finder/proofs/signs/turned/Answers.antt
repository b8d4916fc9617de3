-- `turned` meets its contract: xor with a mask that is b in every place. From the laws on signatures.
use Rattle.finder.proofs.Signatures.{turned_is}
use Rattle.finder.proofs.signs.turned.Goals as goal

pub returns : goal.returns
returns c = turned_is c.args.word c.args.b c.requires
