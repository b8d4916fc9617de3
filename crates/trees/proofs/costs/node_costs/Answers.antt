-- `node_costs` meets its contract. From the laws on a node's numbers.
use Rattle.trees.proofs.EdgeCosts.{numbers_of_lem, moves_read, bits_of}
use native.Mathlib.Omega.{arith}
use Rattle.graph.specs.Graph.{Graph}
use Rattle.graph.specs.Inner.{Readable}
use Rattle.graph.proofs.Words.{readable}
use Rattle.trees.proofs.costs.node_costs.Goals as goal
use Rattle.trees.proofs.costs.node_costs.Goals.{Start}
use Rattle.graph.specs.Tables.{lent_graph, lent_table}

abbrev graph-of : Start → Graph
graph-of s = lent_graph s.args.lent.now

read : (s : Start) → let a = s.args in Readable (lent_table a.lent.now.node_table) a.v
read s = readable (graph-of s) s.requires.0.admitted s.args.v s.requires.1

pub is_xor-requires : goal.is_xor-requires
is_xor-requires c = read (goal.at.is_xor-requires c).Start

pub moves_at-requires : goal.moves_at-requires
moves_at-requires c = (read (goal.at.moves_at-requires c).Start, omega (arith, c.requires.1, c.requires.2))

pub cost_bits-requires : goal.cost_bits-requires
cost_bits-requires c =
    let t = c.tree_numbers-z in
    let a = c.args in (
      numbers_of_lem _ _ _ _ _ 0 t.ensures (omega arith),
      numbers_of_lem _ _ _ _ _ 1 t.ensures (omega arith),
      moves_read _ _ _ _ _ (c.is_xor.ensures a.lent.now.inputs a.lent.now.nodes a.lent.now.outputs (lent_table a.lent.now.output_table)) (c.moves_at.ensures a.lent.now.inputs a.lent.now.nodes a.lent.now.outputs (lent_table a.lent.now.output_table) c.requires.1),
    )

pub returns : goal.returns
returns c =
    bits_of _ _ _ c.requires.0 _ _ _ _ _ c.tree_numbers-z.ensures (c.is_xor.ensures _ _ _ _) (c.moves_at.ensures _ _ _ _ c.requires.1) c.cost_bits.ensures
