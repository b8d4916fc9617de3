-- `moves_at` meets its contract. From the law on the moves of a node, by its lock byte and its kind.
use Rattle.std.proofs.Common.{true, false}
use Rattle.graph.specs.Graph.{graph_of}
use Rattle.moves.specs.Rows.{arity}
use Rattle.moves.proofs.Moves.{moves_read_locked, moves_read_free}
use Rattle.moves.proofs.rows.moves_at.Goals as goal
use Rattle.graph.specs.Tables.{lent_table}

pub returns-then-locks-v-eq1 : goal.returns-then-locks-v-eq1
returns-then-locks-v-eq1 c = λ i n o os l. let a = c.args in moves_read_locked (graph_of i n o (lent_table a.node_table.now) os) a.locks.now a.v l c.if-locks-v-eq1.true

pub returns-then-is_xor : goal.returns-then-is_xor
unfolding arity
returns-then-is_xor c = λ i n o os l.
    let a = c.args in
    moves_read_free (graph_of i n o (lent_table a.node_table.now) os) a.locks.now a.v _ true l c.if-locks-v-eq1.false (c.is_xor.ensures i n o os) c.if-is_xor.true

pub returns : goal.returns
unfolding arity
returns c = λ i n o os l.
    let a = c.args in
    moves_read_free (graph_of i n o (lent_table a.node_table.now) os) a.locks.now a.v _ false l c.if-locks-v-eq1.false (c.is_xor.ensures i n o os) c.if-is_xor.false
