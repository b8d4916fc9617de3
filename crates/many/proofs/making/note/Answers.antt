-- `note` meets its contract. From the law of a bit set.
use Rattle.graph.proofs.Places.{bits_set}
use Rattle.many.proofs.making.note.Goals as goal

pub returns : goal.returns
returns c =
    bits_set c.args.seen.now c.args.u c.args.t c.flipped.result c.requires c.flipped.ensures
