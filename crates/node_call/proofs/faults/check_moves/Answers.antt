-- `check_moves` meets its contract: the named node's move before the node's. From the laws on faults.
use native.Mathlib.Omega.{arith}
use mathlib.Core.Path.{sym}
use Prim.Native.Nat.{◌+◌, ◌-◌}
use Rattle.graph.specs.Graph.{graph_of}
use Rattle.graph.specs.Tables.{lent_table}
use Rattle.graph.proofs.Answers.{ends_row}
use Rattle.graph.proofs.Tests.{none}
use Rattle.node_call.proofs.Refusing.{no_node_named, a_node_named}
use Rattle.node_call.proofs.faults.check_moves.Goals as goal
use Rattle.node_call.proofs.faults.check_moves.Goals.{then-inputs-named+in_ok-check_move, else-inputs-named}

pub check_move-requires : goal.check_move-requires
check_move-requires c = c.requires.3 (c.args.named - (c.args.inputs + 1)) (omega arith)

pub returns-in_err-check_move : goal.returns-in_err-check_move
returns-in_err-check_move c =
    let a = c.args in
    λ n o os h.
    a_node_named (graph_of a.inputs n o (lent_table a.node_table.now) os) a.locks.now a.named a.node a.a a.m c.requires.0 _ c.if-inputs-named.true (omega (arith, c.requires.2))
    (ends_row _ _ _ _ c.from_residual.ensures.1 (c.in_err-check_move.ensures a.inputs n o os (omega arith)))

pub check_move-requires-2 : goal.check_move-requires-2
check_move-requires-2 c = c.requires.3 (c.args.node - (c.args.inputs + 1)) (omega arith)

pub returns : goal.returns
returns c =
    let a = c.args in
    λ n o os h.
    let g = graph_of a.inputs n o (lent_table a.node_table.now) os in
    let own = c.check_move-2.ensures a.inputs n o os (omega arith) in
    elim c.if-inputs-named.branch [
      | then-inputs-named+in_ok-check_move w ↦ a_node_named g a.locks.now a.named a.node a.a a.m c.requires.0 _ w.if-inputs-named.true (omega (arith, c.requires.2)) (none _ _ (sym (w.in_ok-check_move.ensures a.inputs n o os (omega arith))) own)
      | else-inputs-named w ↦ no_node_named g a.locks.now a.named a.node a.a a.m c.requires.0 _ w.if-inputs-named.false own
    ]
