-- `single_calls` makes the node call at each node.
use Rattle.std.proofs.Common.{◌≡◌, ◌*◌, rules, lives, arith}
use Rattle.settling.proofs.Stepping.{ready_room}
use Rattle.settling.proofs.phases.single_calls.Goals as goal

pub at_each-requires : goal.at_each-requires
at_each-requires c κs within =
    let b = c.requires.3 in
    (search (rules, lives, within) depth 24 fits 20000, ((c.requires.0, c.requires.1, c.requires.2, omega arith), (λ v t s l r k x y z h q w n f. (r.ordered, l, r.count, ready_room _ _ _ r, b), λ v t s u z l r p. search (rules, p.1))))

pub returns : goal.returns
returns c =
    let e : 1 * c.args.lent.now.nodes ≡ c.args.lent.now.nodes = omega arith in
    rw e at c.at_each.ensures
