-- `saving_numbered` meets its contract. From the laws on combinations by number.
use Rattle.std.proofs.Common.{◌∙◌}
use Rattle.graph.proofs.Difference.{read_as_lem}
use Rattle.moves.specs.Pair.{saving_numbered}
use Rattle.moves.proofs.Pair.{numbered_fits}
use Rattle.moves.proofs.decide.saving_numbered.Goals as goal

pub pair_saving-requires : goal.pair_saving-requires
pair_saving-requires c =
    let a = c.args in
    let f = numbered_fits a.pair.named a.pair.node a.pair.which c.requires.0.named c.requires.0.node a.c c.requires.1 in
    (c.requires.0, f.0, f.1)

pub returns : goal.returns
unfolding saving_numbered
returns c = read_as_lem _ c.pair_saving.type_inv ∙ c.pair_saving.ensures
