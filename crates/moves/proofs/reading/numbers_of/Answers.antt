-- `numbers_of_lem` meets its contract. Assumes nothing.
use Rattle.std.proofs.Common.{arith}
use Rattle.moves.specs.Decide.{numbers_of}
use Rattle.graph.specs.Inner.{Readable}
use Rattle.graph.proofs.Words.{readable}
use Rattle.moves.proofs.reading.numbers_of.Goals as goal
use Rattle.moves.proofs.reading.numbers_of.Goals.{Start}
use Rattle.graph.specs.Tables.{lent_graph, lent_table}

-- its words can be read

read : (s : Start) → Readable (lent_table s.args.lent.now.node_table) s.args.v
read s =
    let a = s.args in
    readable (lent_graph a.lent.now) s.requires.0 a.v s.requires.1

pub is_xor-requires : goal.is_xor-requires
is_xor-requires c = read (goal.at.is_xor-requires c).Start

pub moves_at-requires : goal.moves_at-requires
moves_at-requires c = (read (goal.at.moves_at-requires c).Start, omega arith)

pub own_costs-requires : goal.own_costs-requires
own_costs-requires c = read (goal.at.own_costs-requires c).Start

pub returns : goal.returns
unfolding numbers_of
returns c =
    let a = c.args in
    rw (
      c.is_xor.ensures a.lent.now.inputs a.lent.now.nodes a.lent.now.outputs (lent_table a.lent.now.output_table),
      c.moves_at.ensures a.lent.now.inputs a.lent.now.nodes a.lent.now.outputs (lent_table a.lent.now.output_table) (omega arith),
      c.own_costs.ensures a.lent.now.inputs a.lent.now.nodes a.lent.now.outputs (lent_table a.lent.now.output_table),
      c.readers_of-all.ensures.all,
      c.readers_of-all.ensures.odd,
    )
