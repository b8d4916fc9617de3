-- `if_more` meets its contract. From the laws on combinations by number.
use Rattle.moves.proofs.Pair.{taken, kept}
use Rattle.moves.proofs.decide.if_more.Goals as goal

pub returns-then-most-saving : goal.returns-then-most-saving
returns-then-most-saving c =
    let a = c.args in
    let r = c.saving_numbered-saving in
    taken a.pair.named a.pair.node a.pair.which c.requires.0.named c.requires.0.node a.c a.best c.requires.2 r.result r.ensures c.if-most-saving.true

pub returns : goal.returns
returns c =
    let a = c.args in
    let r = c.saving_numbered-saving in
    kept a.pair.named a.pair.node a.pair.which c.requires.0.named c.requires.0.node a.c a.best c.requires.2 r.result r.ensures c.if-most-saving.false
