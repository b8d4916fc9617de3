-- `numbers_now` has the numbers of a node in the graph that the state stands for: kind from the table, the rest from scratch.
use mathlib.Core.Path.{refl, ap}
use native.Mathlib.Omega.{arith}
use lib.ListN.{get_or}
use Rattle.graph.specs.Graph.{Graph}
use Rattle.graph.specs.Inner.{Readable}
use Rattle.graph.proofs.Words.{readable}
use Rattle.state.proofs.Counting.{numbers_are}
use Rattle.state.proofs.now.numbers_now.Goals as goal
use Rattle.state.proofs.now.numbers_now.Goals.{Start}
use Rattle.graph.specs.Tables.{lent_graph, lent_table}

abbrev graph-of : Start → Graph
graph-of s = lent_graph s.args.lent.now

read : (s : Start) → Readable (lent_table s.args.lent.now.node_table) s.args.v
read s = readable (graph-of s) s.requires.0.admitted s.args.v s.requires.1

pub is_xor-xor-requires : goal.is_xor-xor-requires
is_xor-xor-requires c = read (goal.at.is_xor-xor-requires c).Start

pub moves_at-moves-requires : goal.moves_at-moves-requires
moves_at-moves-requires c = (read (goal.at.moves_at-moves-requires c).Start, omega (arith, c.requires.1, c.requires.2))

pub returns : goal.returns
returns c =
    let a = c.args in
    let os = lent_table a.lent.now.output_table in
    numbers_are (graph-of (goal.at.returns c).Start) a.lent.now.locks.now a.scratch.now c.requires.0 a.v c.requires.1 _ _ _ _ _
    (c.is_xor-xor.ensures a.lent.now.inputs a.lent.now.nodes a.lent.now.outputs os) (c.moves_at-moves.ensures a.lent.now.inputs a.lent.now.nodes a.lent.now.outputs os c.requires.1) c.own_costs-costs.ensures (ap (λ i. get_or a.scratch.now i 0) (omega arith)) refl
