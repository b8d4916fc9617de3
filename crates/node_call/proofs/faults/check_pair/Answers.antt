-- `check_pair` meets its contract. From the laws on faults.
use native.Mathlib.Omega.{arith}
use mathlib.Core.Path.{◌∙◌, sym}
use Prim.Native.Nat.{◌+◌, ◌-◌}
use Rattle.graph.proofs.Answers.{ends_row}
use Rattle.graph.proofs.Tests.{none}
use Rattle.graph.proofs.Words.{readable}
use Rattle.moves.specs.Call.{word_fault}
use Rattle.node_call.proofs.Refusing.{node_accepted, pair_is}
use Rattle.node_call.proofs.faults.check_pair.Goals as goal
use Rattle.graph.specs.Tables.{lent_graph, lent_table}

pub returns-in_err-check_node : goal.returns-in_err-check_node
returns-in_err-check_node c =
    let a = c.args in
    ends_row _ _ _ _ c.from_residual.ensures.1 c.in_err-check_node.ensures ∙ sym (pair_is (lent_graph a.lent.now) a.lent.now.locks.now a.node a.word)

pub overflow_add-v : goal.overflow_add-v
overflow_add-v c =
    let a = c.args in
    let d = node_accepted (lent_graph a.lent.now) a.lent.now.locks.now a.node (sym c.in_ok-check_node.ensures) in
    omega (arith, d.admitted.few_inputs)

pub overflow_sub-v : goal.overflow_sub-v
overflow_sub-v c =
    let a = c.args in
    let d = node_accepted (lent_graph a.lent.now) a.lent.now.locks.now a.node (sym c.in_ok-check_node.ensures) in
    omega (arith, d.after)

pub is_xor-requires : goal.is_xor-requires
is_xor-requires c =
    let a = c.args in
    let g = lent_graph a.lent.now in
    let d = node_accepted g a.lent.now.locks.now a.node (sym c.in_ok-check_node.ensures) in
    readable g d.admitted (a.node - (a.lent.now.inputs + 1)) (omega (arith, d.after, d.before))

pub returns : goal.returns
unfolding word_fault
returns c =
    let a = c.args in
    let x = c.is_xor.ensures a.lent.now.inputs a.lent.now.nodes a.lent.now.outputs (lent_table a.lent.now.output_table) in
    none _ _ (sym c.in_ok-check_node.ensures) (c.check_word.ensures ∙ rw x) ∙ sym (pair_is (lent_graph a.lent.now) a.lent.now.locks.now a.node a.word)
