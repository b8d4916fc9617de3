-- `pair_saving` meets its contract. From the laws of decisions and outcomes.
use native.Mathlib.Omega.{arith}
use mathlib.Core.Path.{◌∙◌}
use Rattle.graph.specs.Graph.{Graph}
use Rattle.graph.proofs.Difference.{read_as_lem}
use Rattle.graph.proofs.Words.{readable}
use Rattle.node_call.proofs.Outcomes.{counted, naming_bits, tried_fit, tried_saving}
use Rattle.node_call.proofs.trying.pair_saving.Goals as goal
use Rattle.graph.specs.Tables.{lent_graph, lent_table}

pub which_name-which-requires : goal.which_name-which-requires
which_name-which-requires c =
    let a = c.args in
    (readable (lent_graph a.lent.now) c.requires.0 a.v c.requires.2, omega (arith, c.requires.0.few_inputs, c.requires.0.few_nodes, c.requires.1, c.requires.2))

pub pair_saving-requires : goal.pair_saving-requires
pair_saving-requires c =
    let a = c.args in
    let g : Graph = lent_graph a.lent.now in
    let p = c.numbers_of-named in
    let n = c.numbers_of-node in
    let w = c.which_name-which in
    let wn = w.ensures a.lent.now.inputs a.lent.now.nodes a.lent.now.outputs (lent_table a.lent.now.output_table) in
    let f = tried_fit g a.lent.now.locks.now c.requires.0 a.p a.v c.requires.1 c.requires.2 p.result n.result w.result p.ensures n.ensures wn a.a a.k c.requires.4 c.requires.5 in
    (record { named = counted g a.lent.now.locks.now a.p p.result c.requires.0 p.ensures; node = counted g a.lent.now.locks.now a.v n.result c.requires.0 n.ensures; which = naming_bits g a.v _ w.result wn }, f.0, f.1)

pub returns : goal.returns
returns c =
    let a = c.args in
    let g : Graph = lent_graph a.lent.now in
    let p = c.numbers_of-named in
    let n = c.numbers_of-node in
    let w = c.which_name-which in
    let wn = w.ensures a.lent.now.inputs a.lent.now.nodes a.lent.now.outputs (lent_table a.lent.now.output_table) in
    read_as_lem _ c.pair_saving.type_inv
    ∙ c.pair_saving.ensures
    ∙ tried_saving g a.lent.now.locks.now c.requires.0 a.p a.v c.requires.1 c.requires.2 p.result n.result w.result p.ensures n.ensures wn a.a a.k
