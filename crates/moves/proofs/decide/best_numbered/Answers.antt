-- `best_numbered` meets its contract. From the laws on combinations by number.
use Rattle.std.proofs.Common.{◌≡◌, ◌*◌, arith}
use Rattle.moves.proofs.Pair.{combinations, started}
use Rattle.moves.proofs.decide.best_numbered.Goals as goal

pub overflow_mul-all : goal.overflow_mul-all
overflow_mul-all c =
    let l = combinations c.args.pair.named c.args.pair.node c.args.pair.which c.requires.named c.requires.node in
    record { fits = omega (arith, l.1) }

pub saving_numbered-saving-requires : goal.saving_numbered-saving-requires
saving_numbered-saving-requires c =
    let l = combinations c.args.pair.named c.args.pair.node c.args.pair.which c.requires.named c.requires.node in
    (c.requires, l.0)

pub loop-c-init : goal.loop-c-init
loop-c-init c =
    let a = c.args in
    let l = combinations a.pair.named a.pair.node a.pair.which c.requires.named c.requires.node in
    (l.0, l.1, started a.pair.named a.pair.node a.pair.which c.requires.named c.requires.node _ c.saving_numbered-saving.ensures)

pub returns : goal.returns
returns c =
    let a = c.args in
    let e : c.loop-c.c ≡ a.pair.named.moves * a.pair.node.moves = omega arith in
    rw e at c.loop-c.invariant.2
