-- `entering::enter_settled` meets its contract. From the laws on answering.
use Rattle.std.proofs.Common.{rules, ◌∙◌}
use Rattle.graph.specs.Tables.{lent_table}
use Rattle.class_figures.specs.Inner.{node_cells}
use Rattle.class_figures.proofs.Answering.{rounds_entered, row_low}
use Rattle.class_figures.proofs.entering.enter_settled.Goals as goal

pub enter_row-requires : goal.enter_row-requires
enter_row-requires c =
    (c.requires.0, row_low _ _ _ _ (search rules) (search rules) (search rules) (search rules))

pub returns : goal.returns
returns c =
    let a = c.args in
    let s = a.settled in
    c.enter_row.ensures
    ∙ rounds_entered s.rounds s.before s.after c.node_cells-kinds.result (node_cells a.nodes (lent_table a.node_table.now)) s.own s.others a.book.now c.node_cells-kinds.ensures
