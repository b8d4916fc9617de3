-- `own_costs` has what each word adds in the graph that the state stands for. From the law of a node's bits.
use mathlib.Core.Path.{sym, ◌∙◌}
use Prim.Native.Nat.{◌+◌, ◌*◌}
use native.Mathlib.Omega.{arith}
use Rattle.graph.specs.Graph.{Graph}
use Rattle.graph.proofs.Edge.{edge_early, third_majority}
use Rattle.graph.proofs.Words.{readable}
use Rattle.moves.proofs.Deciding.{own_costs_are}
use Rattle.state.specs.State.{stands}
use Rattle.state.proofs.Alike.{alike_xor}
use Rattle.state.proofs.Stands.{stands_alike}
use Rattle.state.proofs.now.own_costs.Goals as goal
use Rattle.state.proofs.now.own_costs.Goals.{Start}
use Rattle.graph.specs.Tables.{lent_graph, lent_table}

abbrev graph-of : Start → Graph
graph-of s = lent_graph s.args.lent.now

pub bit_now-x-requires : goal.bit_now-x-requires
bit_now-x-requires c = (c.requires.0, c.requires.1, omega arith)

pub bit_now-y-requires : goal.bit_now-y-requires
bit_now-y-requires c = (c.requires.0, c.requires.1, omega arith)

pub bit_now-z-requires : goal.bit_now-z-requires
bit_now-z-requires c = (c.requires.0, c.requires.1, omega arith)

pub is_xor-requires : goal.is_xor-requires
is_xor-requires c = readable (graph-of (goal.at.is_xor-requires c).Start) c.requires.0.admitted c.args.v c.requires.1

pub costs_of-requires : goal.costs_of-requires
costs_of-requires c = (c.bit_now-x.ensures.1, c.bit_now-y.ensures.1, c.bit_now-z.ensures.1)

pub returns : goal.returns
returns c =
    let a = c.args in
    let g = graph-of (goal.at.returns c).Start in
    let v = a.v in
    let kind = alike_xor g (stands g a.scratch.now) (stands_alike g a.scratch.now c.requires.0.admitted) v in
    c.costs_of.ensures ∙
    own_costs_are (stands g a.scratch.now) v _ _ _ _
    (c.bit_now-x.ensures.0 (edge_early g (3 * v + 0) (omega arith)))
    (c.bit_now-y.ensures.0 (edge_early g (3 * v + 1) (omega arith)))
    (c.is_xor.ensures a.lent.now.inputs a.lent.now.nodes a.lent.now.outputs (lent_table a.lent.now.output_table) ∙ sym kind)
    (λ k. c.bit_now-z.ensures.0 (third_majority g v (sym kind ∙ k)))
