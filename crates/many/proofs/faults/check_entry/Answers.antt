-- `check_entry` meets its contract: the tests of an entry, in their order. From the laws on an entry.
use Rattle.std.proofs.Common.{◌≡◌, List, [], ℕ, ◌+◌, ◌-◌, ◌<◌, get_or, sym, ◌∙◌, arith}
use Rattle.graph.specs.Graph.{graph_of}
use Rattle.graph.specs.Tables.{lent_table}
use Rattle.graph.proofs.Answers.{ends_row}
use Rattle.graph.proofs.Tests.{none}
use Rattle.moves.proofs.Known.{node_known}
use Rattle.many.specs.Many.{entry_number}
use Rattle.many.proofs.Refusing.{entry_move}
use Rattle.many.proofs.faults.check_entry.Goals as goal
use Rattle.many.proofs.faults.check_entry.Goals.{In_ok-check_node}

known : (c : In_ok-check_node) → let a = c.args in
    (a.inputs < get_or a.list.now a.j 0) × (get_or a.list.now a.j 0 < a.inputs + 1 + a.nodes)
known c = let a = c.args in node_known (graph_of a.inputs a.nodes 0 (lent_table a.node_table.now) []) _ (sym (c.in_ok-check_node.ensures 0 (lent_table a.node_table.now) []))

pub returns-in_err-check_node : goal.returns-in_err-check_node
unfolding entry_number
returns-in_err-check_node c = λ o os. ends_row _ _ _ _ c.from_residual.ensures.1 (c.in_err-check_node.ensures o (lent_table c.args.node_table.now) os)

pub returns-in_err-check_rising : goal.returns-in_err-check_rising
unfolding entry_number
returns-in_err-check_rising c =
    λ o os.
    none _ _ (sym (c.in_ok-check_node.ensures o (lent_table c.args.node_table.now) os))
    (ends_row _ _ _ _ c.from_residual-in_err-check_rising.ensures.1 c.in_err-check_rising.ensures)

pub overflow_sub-v : goal.overflow_sub-v
overflow_sub-v c = omega (arith, known (goal.at.overflow_sub-v c).In_ok-check_node)

pub overflow_cast-v : goal.overflow_cast-v
overflow_cast-v c = omega (arith, known (goal.at.overflow_cast-v c).In_ok-check_node)

pub check_move-requires : goal.check_move-requires
check_move-requires c =
    let k = known (goal.at.check_move-requires c).In_ok-check_node in
    (c.requires.0.words (get_or c.args.list.now c.args.j 0 - (c.args.inputs + 1)) (omega (arith, k)), omega (arith, k, c.requires.0.enough_locks))

pub returns : goal.returns
returns c =
    let a = c.args in
    let ns = lent_table a.node_table.now in
    λ o os.
    entry_move (graph_of a.inputs a.nodes o ns os) a.locks.now a.list.now a.bytes.now a.j _ _ (sym (c.in_ok-check_node.ensures o ns os)) (sym c.in_ok-check_rising.ensures)
    c.byte_at-m.ensures (c.check_move.ensures a.inputs a.nodes o os (omega (arith, known (goal.at.returns c).In_ok-check_node)))
