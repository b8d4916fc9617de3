-- `check_move` meets its contract: the tests of a move, in their order. From the laws on a move and on answers.
use Rattle.graph.specs.Graph.{graph_of}
use Rattle.graph.specs.Tables.{lent_table}
use Rattle.graph.proofs.Answers.{both_row}
use Rattle.moves.proofs.Known.{move_read}
use Rattle.moves.proofs.faults.check_move.Goals as goal

pub returns : goal.returns
returns c =
    let a = c.args in
    λ i n o os h.
    move_read (graph_of i n o (lent_table a.node_table.now) os) a.locks.now a.v a.m _ _ _ _ h (c.is_xor.ensures i n o os) c.check_kind-lacked.ensures c.check_locked-locked.ensures
    (both_row _ _ _ c.and.ensures)
