-- `pair_saving` meets its contract. From those of `pair_cost` and `less`.
use Rattle.std.proofs.Common.{◌∙◌}
use Rattle.graph.proofs.Difference.{read_as_lem}
use Rattle.moves.proofs.Pair.{from_costs}
use Rattle.moves.proofs.decide.pair_saving.Goals as goal

pub returns : goal.returns
returns c =
    let a = c.args in
    read_as_lem _ c.less.type_inv ∙ c.less.ensures ∙ from_costs a.pair.named a.pair.node a.pair.which a.a a.k _ _ c.pair_cost-before.ensures c.pair_cost-after.ensures
