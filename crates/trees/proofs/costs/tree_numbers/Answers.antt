-- `tree_numbers` meets its contract. From those of a word, by the kind.
use mathlib.Core.Path.{◌≡◌, sym, ◌∙◌}
use Prim.Native.Nat.{◌+◌, ◌*◌}
use native.Mathlib.Omega.{arith}
use Rattle.graph.specs.Graph.{Graph, is_xor}
use Rattle.graph.proofs.Edge.{edge_early, third_majority, third_xor}
use Rattle.graph.proofs.Words.{readable}
use Rattle.moves.specs.Cost.{word_costs}
use Rattle.trees.specs.Costing.{inner_at, cost_at}
use Rattle.trees.proofs.EdgeCosts.{mark_is}
use Rattle.trees.proofs.costs.tree_numbers.Goals as goal
use Rattle.trees.proofs.costs.tree_numbers.Goals.{After-is_xor, Start}
use Rattle.graph.specs.Tables.{lent_graph, lent_table}

abbrev graph-of : Start → Graph
graph-of s = lent_graph s.args.lent.now

kind : (c : After-is_xor) → c.is_xor.result ≡ is_xor (graph-of (goal.at.After-is_xor c).Start) c.args.v
kind c = let a = c.args in c.is_xor.ensures a.lent.now.inputs a.lent.now.nodes a.lent.now.outputs (lent_table a.lent.now.output_table)

pub edge_numbers-x-requires : goal.edge_numbers-x-requires
edge_numbers-x-requires c = (c.requires.0, c.requires.1, omega arith, edge_early (graph-of (goal.at.edge_numbers-x-requires c).Start) (3 * c.args.v + 0) (omega arith))

pub edge_numbers-y-requires : goal.edge_numbers-y-requires
edge_numbers-y-requires c = (c.requires.0, c.requires.1, omega arith, edge_early (graph-of (goal.at.edge_numbers-y-requires c).Start) (3 * c.args.v + 1) (omega arith))

pub is_xor-requires : goal.is_xor-requires
is_xor-requires c = readable (graph-of (goal.at.is_xor-requires c).Start) c.requires.0.admitted c.args.v c.requires.1

pub returns-then-is_xor : goal.returns-then-is_xor
unfolding word_costs
returns-then-is_xor c =
    let a = c.args in
    let z = mark_is (graph-of (goal.at.returns-then-is_xor c).Start) a.scratch.now c.requires.0 (inner_at a.lent.now.inputs a.scratch.now) (cost_at a.lent.now.inputs a.scratch.now) a.v 2 c.requires.1 (omega arith) in
    let e = third_xor (graph-of (goal.at.returns-then-is_xor c).Start) a.v (sym (kind (goal.at.returns-then-is_xor c).After-is_xor) ∙ c.if-is_xor.true) in
    rw (c.edge_numbers-x.ensures, c.edge_numbers-y.ensures, z 0 e, z 1 e)

pub edge_numbers-z-requires : goal.edge_numbers-z-requires
edge_numbers-z-requires c = (c.requires.0, c.requires.1, omega arith, third_majority (graph-of (goal.at.edge_numbers-z-requires c).Start) c.args.v (sym (kind (goal.at.edge_numbers-z-requires c).After-is_xor) ∙ c.if-is_xor.false))

pub returns : goal.returns
unfolding word_costs
returns c = rw (c.edge_numbers-x.ensures, c.edge_numbers-y.ensures, c.edge_numbers-z.ensures)
