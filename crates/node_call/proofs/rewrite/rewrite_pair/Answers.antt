-- `rewrite_pair` meets its contract. From the laws of decisions and outcomes.
use native.Mathlib.Omega.{arith}
use Prim.Native.Nat.{◌<◌}
use Rattle.graph.specs.Graph.{Graph, graph_of}
use Rattle.graph.proofs.Words.{readable}
use Rattle.node_call.proofs.Outcomes.{counted, naming_bits, both_fit, pair_outcome}
use Rattle.graph.specs.Literals.{literals}
use Rattle.node_call.proofs.rewrite.rewrite_pair.Goals as goal

pub which_name-which-requires : goal.which_name-which-requires
which_name-which-requires c =
    let a = c.args in
    (readable (graph_of a.inputs a.nodes a.outputs (literals a.node_table.now a.node_bits.now) (literals a.output_table.now a.output_bits.now)) c.requires.0 a.v c.requires.2, omega (arith, c.requires.0.few_inputs, c.requires.0.few_nodes, c.requires.1, c.requires.2))

pub best_pair-best-requires : goal.best_pair-best-requires
best_pair-best-requires c =
    let a = c.args in
    let g : Graph = graph_of a.inputs a.nodes a.outputs (literals a.node_table.now a.node_bits.now) (literals a.output_table.now a.output_bits.now) in
    let p = c.numbers_of-named in
    let n = c.numbers_of-node in
    let w = c.which_name-which in
    let wn = w.ensures a.inputs a.nodes a.outputs (literals a.output_table.now a.output_bits.now) in
    record { named = counted g a.locks.now a.p p.result c.requires.0 p.ensures; node = counted g a.locks.now a.v n.result c.requires.0 n.ensures; which = naming_bits g a.v _ w.result wn }

pub pair_odds-odds-requires : goal.pair_odds-odds-requires
pair_odds-odds-requires c =
    let a = c.args in
    let g : Graph = graph_of a.inputs a.nodes a.outputs (literals a.node_table.now a.node_bits.now) (literals a.output_table.now a.output_bits.now) in
    let p = c.numbers_of-named in
    let n = c.numbers_of-node in
    let b = c.best_pair-best.ensures.greatest in
    (counted g a.locks.now a.p p.result c.requires.0 p.ensures, counted g a.locks.now a.v n.result c.requires.0 n.ensures, b.below, b.fits)

pub write_pair-requires : goal.write_pair-requires
write_pair-requires c =
    let a = c.args in
    let g : Graph = graph_of a.inputs a.nodes a.outputs (literals a.node_table.now a.node_bits.now) (literals a.output_table.now a.output_bits.now) in
    let p = c.numbers_of-named in
    let n = c.numbers_of-node in
    let w = c.which_name-which in
    let h : a.p < a.nodes = omega (arith, c.requires.1, c.requires.2) in
    let wn = w.ensures a.inputs a.nodes a.outputs (literals a.output_table.now a.output_bits.now) in
    let b = both_fit g a.locks.now c.requires.0 a.p a.v c.requires.1 c.requires.2 p.result n.result w.result p.ensures n.ensures wn _ _ c.best_pair-best.ensures.greatest in
    (c.requires.0, h, c.requires.2, omega (arith, c.requires.1), b.0, b.1)

pub returns : goal.returns
returns c =
    let a = c.args in
    let g : Graph = graph_of a.inputs a.nodes a.outputs (literals a.node_table.now a.node_bits.now) (literals a.output_table.now a.output_bits.now) in
    let p = c.numbers_of-named in
    let n = c.numbers_of-node in
    let w = c.which_name-which in
    let wn = w.ensures a.inputs a.nodes a.outputs (literals a.output_table.now a.output_bits.now) in
    let b = c.best_pair-best.ensures in
    pair_outcome g a.locks.now c.requires.0 a.p a.v c.requires.1 c.requires.2 p.result n.result w.result p.ensures n.ensures wn _ _ b.greatest _ _ c.pair_odds-odds.result c.write_pair.ensures b.saving c.pair_odds-odds.ensures _ c.saved_by.ensures
