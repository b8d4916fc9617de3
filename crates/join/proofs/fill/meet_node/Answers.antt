-- `fill::meet_node` meets its contract: the words that are read are met and put. From the laws of filling.
use mathlib.Core.Path.{◌∙◌}
use Prim.Native.Nat.{ℕ, ◌+◌, ◌*◌, ◌≤◌, ◌<◌}
use native.Mathlib.Omega.{arith}
use lib.ListN.{get_or}
use Rattle.graph.specs.Graph.{index}
use Rattle.join.proofs.Filling.{early_low, third_low, node_met}
use Rattle.join.proofs.fill.meet_node.Goals as goal
use Rattle.join.proofs.fill.meet_node.Goals.{Start}
use Rattle.graph.specs.Tables.{lent_table}

-- word k of node v of the second, k below 2

early : (s : Start) (k : ℕ) → k < 2 → index (get_or (lent_table s.args.second_node_table.now) (3 * s.args.v + k) 0) ≤ 104096
early s k h = let a = s.args in early_low (lent_table a.second_node_table.now) (a.v + 1) s.requires.stand (3 * a.v + k) (omega arith) (omega arith)

pub three_at-three-requires : goal.three_at-three-requires
three_at-three-requires c = c.requires.stand.readable c.args.v (omega arith)

pub edge_of-first-requires : goal.edge_of-first-requires
edge_of-first-requires c =
    (c.requires.stand.readable c.args.v (omega arith), omega arith, omega (arith, early (goal.at.edge_of-first-requires c).Start 0 (omega arith)), c.three_at-three.ensures)

pub met-x-requires : goal.met-x-requires
met-x-requires c = rw c.edge_of-first.ensures (early (goal.at.met-x-requires c).Start 0 (omega arith))

pub edge_of-second-requires : goal.edge_of-second-requires
edge_of-second-requires c =
    (c.requires.stand.readable c.args.v (omega arith), omega arith, omega (arith, early (goal.at.edge_of-second-requires c).Start 1 (omega arith)), c.three_at-three.ensures)

pub met-y-requires : goal.met-y-requires
met-y-requires c = rw c.edge_of-second.ensures (early (goal.at.met-y-requires c).Start 1 (omega arith))

pub word_of-third-requires : goal.word_of-third-requires
word_of-third-requires c = (c.requires.stand.readable c.args.v (omega arith), omega arith, c.three_at-three.ensures)

pub met_third-z-requires : goal.met_third-z-requires
met_third-z-requires c =
    let a = c.args in
    let e = c.word_of-third.ensures in
    λ n. rw e (third_low (lent_table a.second_node_table.now) (a.v + 1) c.requires.stand (3 * a.v + 2) (omega arith) (λ z. n (e ∙ z)))

pub put_node-requires : goal.put_node-requires
put_node-requires c =
    (c.requires.at_bound, omega (arith, c.met-x.ensures.1), omega (arith, c.met-y.ensures.1), c.met_third-z.ensures.1)

pub returns : goal.returns
returns c =
    let a = c.args in
    node_met (lent_table a.second_node_table.now) (lent_table a.front.now.outputs) a.front.now.base a.front.now.inputs a.v a.at _ _ _ _ _ _ _ _ c.edge_of-first.ensures c.met-x.ensures.0 c.edge_of-second.ensures c.met-y.ensures.0 c.word_of-third.ensures c.met_third-z.ensures.0 c.put_node.ensures
