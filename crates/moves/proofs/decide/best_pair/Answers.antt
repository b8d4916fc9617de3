-- `best_pair` meets its contract. From the laws on combinations by number.
use Rattle.moves.proofs.Pair.{not_negative, won, won_saving}
use Rattle.moves.proofs.decide.best_pair.Goals as goal

pub count_of-requires : goal.count_of-requires
count_of-requires c =
    not_negative c.args.pair.named c.args.pair.node c.args.pair.which c.requires.named c.requires.node c.best_numbered-best.result c.best_numbered-best.ensures

pub returns : goal.returns
returns c =
    let a = c.args in
    let r = c.best_numbered-best in
    record {
      greatest = won a.pair.named a.pair.node a.pair.which c.requires.named c.requires.node r.result r.ensures;
      saving = won_saving a.pair.named a.pair.node a.pair.which c.requires.named c.requires.node r.result r.ensures _ c.count_of.ensures;
    }
