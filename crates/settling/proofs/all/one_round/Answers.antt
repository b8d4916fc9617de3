-- `one_round` makes the three phases in order.
use Prim.Native.Nat.{◌+◌, ◌*◌}
use native.Mathlib.Omega.{arith}
use Rattle.settling.proofs.Stepping.{phase_then, phase_most}
use Rattle.settling.proofs.all.one_round.Goals as goal

pub tree_calls-a-requires : goal.tree_calls-a-requires
tree_calls-a-requires c =
    let r = c.requires.2 in
    (c.requires.0, c.requires.1, record { low = omega (arith, r.low); low_after = omega (arith, r.low_after) }, c.requires.3)

pub single_calls-b-requires : goal.single_calls-b-requires
single_calls-b-requires c =
    let r = c.requires.2 in
    let n = c.requires.0.admitted.few_nodes in
    let x = c.tree_calls-a.ensures in
    (x.ordered, x.count, record { low = omega (arith, r.low, x.few, n); low_after = omega (arith, r.low_after, x.few_after, n) }, c.requires.3)

pub pair_calls-requires : goal.pair_calls-requires
pair_calls-requires c =
    let r = c.requires.2 in
    let n = c.requires.0.admitted.few_nodes in
    let x = c.tree_calls-a.ensures in
    let y = c.single_calls-b.ensures in
    (y.ordered, y.count, record { low = omega (arith, r.low, x.few, y.few, n); low_after = omega (arith, r.low_after, x.few_after, y.few_after, n) }, c.requires.3)

pub returns : goal.returns
returns c =
    let n = c.args.lent.now.nodes in
    phase_most _ (n + n + 3 * n) 500000 _ _ _ _ _ (omega (arith, c.requires.0.admitted.few_nodes))
    (phase_then _ _ (n + n) (3 * n) _ _ _ _ _ _ _ (phase_then _ _ n n _ _ _ _ _ _ _ c.tree_calls-a.ensures c.single_calls-b.ensures) c.pair_calls.ensures)
