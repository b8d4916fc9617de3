-- `look` meets its contract: both kinds of node. From the laws on looking.
use mathlib.Core.Path.{◌∙◌}
use native.Mathlib.Omega.{arith}
use Rattle.graph.specs.Graph.{Graph}
use Rattle.graph.proofs.Words.{readable, readable_below}
use Rattle.evaluation.specs.Inner.{nodes_of}
use Rattle.hidden.specs.Truth.{Triple, triple}
use Rattle.majority_call.proofs.Look.{looked_xor, looked_majority, first_below, second_below, third_below, index_room}
use Rattle.majority_call.proofs.valuing.look.Goals as goal
use Rattle.majority_call.proofs.valuing.look.Goals.{Start}
use Rattle.graph.specs.Tables.{lent_table}

abbrev graph : Start → Graph
graph s = nodes_of s.args.inputs s.args.nodes (lent_table s.args.node_table.now)

abbrev three : Start → Triple
three s = triple s.args.one s.args.two s.args.three

pub word_at-third-requires : goal.word_at-third-requires
word_at-third-requires c =
    let r = readable (graph (goal.at.word_at-third-requires c).Start) c.requires.0 c.args.v c.requires.2 in
    (r.there, readable_below (graph (goal.at.word_at-third-requires c).Start).nodes c.args.v r 2 (omega arith))

pub edge_at-x-requires : goal.edge_at-x-requires
edge_at-x-requires c =
    let r = readable (graph (goal.at.edge_at-x-requires c).Start) c.requires.0 c.args.v c.requires.2 in
    (omega (arith, r.there), r.first)

pub edge_at-y-requires : goal.edge_at-y-requires
edge_at-y-requires c =
    let r = readable (graph (goal.at.edge_at-y-requires c).Start) c.requires.0 c.args.v c.requires.2 in
    (omega (arith, r.there), r.second)

pub known_at-a-requires : goal.known_at-a-requires
known_at-a-requires c =
    let a = c.args in
    let b = first_below (graph (goal.at.known_at-a-requires c).Start) c.requires.0 a.v c.requires.2 in
    let r = index_room a.inputs a.nodes a.v _ _ _ _ c.index_of.ensures c.edge_at-x.ensures b c.requires.2 c.requires.0.few_nodes c.requires.1 in
    (c.requires.0.few_inputs, r.0, r.1)

pub known_at-b-requires : goal.known_at-b-requires
known_at-b-requires c =
    let a = c.args in
    let b = second_below (graph (goal.at.known_at-b-requires c).Start) c.requires.0 a.v c.requires.2 in
    let r = index_room a.inputs a.nodes a.v _ _ _ _ c.index_of-2.ensures c.edge_at-y.ensures b c.requires.2 c.requires.0.few_nodes c.requires.1 in
    (c.requires.0.few_inputs, r.0, r.1)

pub exclusive_of-requires : goal.exclusive_of-requires
exclusive_of-requires c =
    let a = c.args in
    let bx = first_below (graph (goal.at.exclusive_of-requires c).Start) c.requires.0 a.v c.requires.2 in
    let by = second_below (graph (goal.at.exclusive_of-requires c).Start) c.requires.0 a.v c.requires.2 in
    (omega (arith, bx, c.edge_at-x.ensures, c.requires.0.few_nodes, c.requires.0.few_inputs), omega (arith, by, c.edge_at-y.ensures, c.requires.0.few_nodes, c.requires.0.few_inputs))

pub returns-then-third : goal.returns-then-third
returns-then-third c =
    let p = c.args in
    looked_xor (graph (goal.at.returns-then-third c).Start) c.requires.0 p.scratch.now (three (goal.at.returns-then-third c).Start) c.requires.3 p.v c.requires.2 c.requires.4
    c.edge_at-x.result c.edge_at-y.result c.word_at-third.result c.index_of.result c.index_of-2.result c.known_at-a.result c.known_at-b.result c.exclusive_of.result
    c.edge_at-x.ensures c.edge_at-y.ensures c.word_at-third.ensures c.if-third.true c.index_of.ensures c.index_of-2.ensures c.known_at-a.ensures c.known_at-b.ensures c.exclusive_of.ensures

pub known_at-c-requires : goal.known_at-c-requires
known_at-c-requires c =
    let a = c.args in
    let b = third_below (graph (goal.at.known_at-c-requires c).Start) c.requires.0 a.v c.requires.2 (λ e. c.if-third.false (c.word_at-third.ensures ∙ e)) in
    let r = index_room a.inputs a.nodes a.v _ _ _ _ c.index_of-3.ensures c.word_at-third.ensures b c.requires.2 c.requires.0.few_nodes c.requires.1 in
    (c.requires.0.few_inputs, r.0, r.1)

pub majority_of-requires : goal.majority_of-requires
majority_of-requires c =
    let a = c.args in
    let bx = first_below (graph (goal.at.majority_of-requires c).Start) c.requires.0 a.v c.requires.2 in
    let by = second_below (graph (goal.at.majority_of-requires c).Start) c.requires.0 a.v c.requires.2 in
    let bz = third_below (graph (goal.at.majority_of-requires c).Start) c.requires.0 a.v c.requires.2 (λ e. c.if-third.false (c.word_at-third.ensures ∙ e)) in
    (omega (arith, bx, c.edge_at-x.ensures, c.requires.0.few_nodes, c.requires.0.few_inputs), omega (arith, by, c.edge_at-y.ensures, c.requires.0.few_nodes, c.requires.0.few_inputs), omega (arith, bz, c.word_at-third.ensures, c.requires.0.few_nodes, c.requires.0.few_inputs))

pub returns : goal.returns
returns c =
    let p = c.args in
    looked_majority (graph (goal.at.returns c).Start) c.requires.0 p.scratch.now (three (goal.at.returns c).Start) c.requires.3 p.v c.requires.2 c.requires.4
    c.edge_at-x.result c.edge_at-y.result c.word_at-third.result c.index_of.result c.index_of-2.result c.index_of-3.result c.known_at-a.result c.known_at-b.result c.known_at-c.result c.majority_of.result
    c.edge_at-x.ensures c.edge_at-y.ensures c.word_at-third.ensures c.if-third.false c.index_of.ensures c.index_of-2.ensures c.index_of-3.ensures c.known_at-a.ensures c.known_at-b.ensures c.known_at-c.ensures c.majority_of.ensures
