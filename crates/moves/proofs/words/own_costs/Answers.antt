-- `own_costs` meets its contract. From the law of a node's bits.
use Rattle.std.proofs.Common.{◌∙◌}
use Rattle.graph.specs.Graph.{Graph, graph_of}
use Rattle.graph.proofs.Words.{edge_bit_lem}
use Rattle.moves.proofs.Deciding.{first_place, own_costs_are, third_low}
use Rattle.moves.proofs.words.own_costs.Goals as goal
use Rattle.graph.specs.Tables.{lent_table}

pub returns : goal.returns
returns c i n o os =
    let a = c.args in
    let g : Graph = graph_of i n o (lent_table a.node_table.now) os in
    c.costs_of.ensures
    ∙ own_costs_are g a.v _ _ _ _
    (rw (← first_place (lent_table a.node_table.now) a.v) (c.odd_at-x.ensures.0 ∙ edge_bit_lem _ c.requires.first))
    (c.odd_at-y.ensures.0 ∙ edge_bit_lem _ c.requires.second)
    (c.is_xor-xor.ensures i n o os)
    (λ k. c.odd_at-z.ensures.0 ∙ edge_bit_lem _ (third_low g a.v c.requires.third k))
