-- `pair_calls` makes the pair calls at each node.
use Rattle.std.proofs.Common.{rules, lives, arith}
use Rattle.settling.proofs.phases.pair_calls.Goals as goal

pub at_each-requires : goal.at_each-requires
at_each-requires c κs within =
    let b = c.requires.3 in
    (search (rules, lives, within) depth 24 fits 20000, ((c.requires.0, c.requires.1, c.requires.2, omega arith), (λ v t s l r k x y z h q w n f. (r.ordered, l, r.count, r.room, b), λ v t s u z l r p. search (rules, p.1))))

pub returns : goal.returns
returns c = c.at_each.ensures
