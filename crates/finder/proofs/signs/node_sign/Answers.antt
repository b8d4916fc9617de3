-- `node_sign` meets its contract: both kinds of node. From the laws on signatures.
use mathlib.Core.Path.{◌∙◌}
use native.Mathlib.Omega.{arith}
use Rattle.graph.specs.Graph.{Graph}
use Rattle.graph.proofs.Words.{readable, readable_below}
use Rattle.majority_call.proofs.Look.{first_below, second_below, third_below}
use Rattle.finder.proofs.Signatures.{literal_room, signed_xor, signed_majority}
use Rattle.finder.proofs.signs.node_sign.Goals as goal
use Rattle.finder.proofs.signs.node_sign.Goals.{Start}
use Rattle.finder.specs.Nodes.{nodes_in}

abbrev graph : Start → Graph
graph s = nodes_in s.args.graph.now

pub word_at-third-requires : goal.word_at-third-requires
word_at-third-requires c =
    let r = readable (graph (goal.at.word_at-third-requires c).Start) c.requires.0 c.args.v c.requires.2 in
    (r.there, readable_below (graph (goal.at.word_at-third-requires c).Start).nodes c.args.v r 2 (omega arith))

pub edge_at-requires : goal.edge_at-requires
edge_at-requires c =
    let r = readable (graph (goal.at.edge_at-requires c).Start) c.requires.0 c.args.v c.requires.2 in
    (omega (arith, r.there), r.first)

pub literal_sign-x-requires : goal.literal_sign-x-requires
literal_sign-x-requires c =
    literal_room (graph (goal.at.literal_sign-x-requires c).Start) c.requires.0 c.args.v c.requires.2 _ _ _ c.requires.1 c.edge_at.ensures (first_below (graph (goal.at.literal_sign-x-requires c).Start) c.requires.0 c.args.v c.requires.2)

pub edge_at-requires-2 : goal.edge_at-requires-2
edge_at-requires-2 c =
    let r = readable (graph (goal.at.edge_at-requires-2 c).Start) c.requires.0 c.args.v c.requires.2 in
    (omega (arith, r.there), r.second)

pub literal_sign-y-requires : goal.literal_sign-y-requires
literal_sign-y-requires c =
    literal_room (graph (goal.at.literal_sign-y-requires c).Start) c.requires.0 c.args.v c.requires.2 _ _ _ c.requires.1 c.edge_at-2.ensures (second_below (graph (goal.at.literal_sign-y-requires c).Start) c.requires.0 c.args.v c.requires.2)

pub returns-then-third : goal.returns-then-third
returns-then-third c =
    signed_xor (graph (goal.at.returns-then-third c).Start) c.requires.0 c.args.v c.requires.2 c.args.scratch.now c.edge_at.result c.edge_at-2.result c.word_at-third.result c.literal_sign-x.result c.literal_sign-y.result
    c.edge_at.ensures c.edge_at-2.ensures c.word_at-third.ensures c.literal_sign-x.ensures c.literal_sign-y.ensures c.if-third.true

pub literal_sign-z-requires : goal.literal_sign-z-requires
literal_sign-z-requires c =
    let b = third_below (graph (goal.at.literal_sign-z-requires c).Start) c.requires.0 c.args.v c.requires.2 (λ e. c.if-third.false (c.word_at-third.ensures ∙ e)) in
    literal_room (graph (goal.at.literal_sign-z-requires c).Start) c.requires.0 c.args.v c.requires.2 _ _ _ c.requires.1 c.word_at-third.ensures b

pub returns : goal.returns
returns c =
    signed_majority (graph (goal.at.returns c).Start) c.requires.0 c.args.v c.requires.2 c.args.scratch.now c.edge_at.result c.edge_at-2.result c.word_at-third.result c.literal_sign-x.result c.literal_sign-y.result
    c.edge_at.ensures c.edge_at-2.ensures c.word_at-third.ensures c.literal_sign-x.ensures c.literal_sign-y.ensures
    c.if-third.false c.literal_sign-z.result c.majority_sign.result c.literal_sign-z.ensures c.majority_sign.ensures
