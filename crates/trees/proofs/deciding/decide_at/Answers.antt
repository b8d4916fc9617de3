-- `decide_at` meets its contract. From the laws on a node's numbers.
use Rattle.trees.proofs.EdgeCosts.{decided_by, moves_read}
use Rattle.trees.proofs.Shown.{numbers_decided}
use native.Mathlib.Omega.{arith}
use Rattle.graph.specs.Graph.{Graph}
use Rattle.graph.specs.Inner.{Readable}
use Rattle.graph.proofs.Words.{readable}
use Rattle.trees.proofs.deciding.decide_at.Goals as goal
use Rattle.trees.proofs.deciding.decide_at.Goals.{Start}
use Rattle.graph.specs.Tables.{lent_graph, lent_table}

abbrev graph-of : Start → Graph
graph-of s = lent_graph s.args.lent.now

read : (s : Start) → let a = s.args in Readable (lent_table a.lent.now.node_table) a.v
read s = readable (graph-of s) s.requires.0.admitted s.args.v s.requires.1

pub is_xor-requires : goal.is_xor-requires
is_xor-requires c = read (goal.at.is_xor-requires c).Start

pub moves_at-requires : goal.moves_at-requires
moves_at-requires c = (read (goal.at.moves_at-requires c).Start, omega (arith, c.requires.1, c.requires.3))

pub first_least-requires : goal.first_least-requires
first_least-requires c =
    let p = c.requires in
    let a = c.args in (
      numbers_decided _ _ p.0 _ p.1 _ _ _ c.tree_numbers-z.ensures c.read-readers.ensures c.odd_at-odd.ensures,
      moves_read _ _ _ _ _ (c.is_xor.ensures a.lent.now.inputs a.lent.now.nodes a.lent.now.outputs (lent_table a.lent.now.output_table)) (c.moves_at.ensures a.lent.now.inputs a.lent.now.nodes a.lent.now.outputs (lent_table a.lent.now.output_table) p.1),
    )

pub returns : goal.returns
returns c =
    decided_by _ _ _ _ _ _ _ _ _ _ _ (c.is_xor.ensures _ _ _ _) (c.moves_at.ensures _ _ _ _ c.requires.1) c.tree_numbers-z.ensures c.read-readers.ensures c.odd_at-odd.ensures c.first_least.ensures
