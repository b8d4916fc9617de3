-- The tests in their order: admission, node, triple, lock, scratch. From the laws on tests.
use Rattle.std.proofs.Common.{◌≡◌, ℕ, ◌+◌, ◌-◌, ◌≤◌, ◌<◌, length, refl, sym, arith}
use Rattle.graph.specs.Graph.{Graph}
use Rattle.graph.specs.Tables.{lent_graph, lent_table}
use Rattle.graph.proofs.Admit.{admitted, locks_admitted}
use Rattle.graph.proofs.Answers.{ends_row}
use Rattle.graph.proofs.Tests.{none}
use Rattle.moves.specs.Call.{node_fault}
use Rattle.moves.proofs.Known.{node_known}
use Rattle.hidden.specs.Call.{majority_number}
use Rattle.majority_call.proofs.Numbers.{lock_is}
use Rattle.majority_call.proofs.faults.check_majority.Goals as goal
use Rattle.majority_call.proofs.faults.check_majority.Goals.{In_ok-check_admission, In_ok-check_node, Start}

abbrev graph : Start → Graph
graph s = lent_graph s.args.lent.now

-- past each test

is-node : (j : In_ok-check_node) → node_fault (graph (goal.at.In_ok-check_node j).Start) j.args.node ≡ 0
is-node j = sym (j.in_ok-check_node.ensures j.args.lent.now.outputs (lent_table j.args.lent.now.node_table) (lent_table j.args.lent.now.output_table))

-- the node's number, once it is known to be one

known : (i n u f : ℕ) → (i < u) × (u < i + 1 + n) → n ≤ f → (i ≤ u) × (1 ≤ u - i) × (u - i - 1 < f)
known i n u f h l = (omega arith, omega arith, omega arith)

placed : (j : In_ok-check_node) → let a = j.args in
    (a.lent.now.inputs ≤ a.node) × (1 ≤ a.node - a.lent.now.inputs) × (a.node - a.lent.now.inputs - 1 < length a.lent.now.locks.now)
placed j =
    known j.args.lent.now.inputs j.args.lent.now.nodes j.args.node (length j.args.lent.now.locks.now) (node_known (graph (goal.at.In_ok-check_node j).Start) j.args.node (is-node j))
    (locks_admitted (graph (goal.at.In_ok-check_node j).Start) j.args.lent.now.locks.now (sym j.in_ok-check_admission.ensures)).enough

pub returns-in_err-check_admission : goal.returns-in_err-check_admission
unfolding majority_number
returns-in_err-check_admission c = ends_row _ _ _ _ c.from_residual.ensures.1 c.in_err-check_admission.ensures

pub check_node-requires : goal.check_node-requires
check_node-requires c =
    let d = admitted (lent_graph c.args.lent.now) c.args.lent.now.locks.now (sym c.in_ok-check_admission.ensures) in
    (d.few_inputs, d.few_nodes)

pub returns-in_err-check_node : goal.returns-in_err-check_node
unfolding majority_number
returns-in_err-check_node c =
    let g = c.args.lent.now in
    none _ _ (sym c.in_ok-check_admission.ensures)
    (ends_row _ _ _ _ c.from_residual-in_err-check_node.ensures.1 (c.in_err-check_node.ensures g.outputs (lent_table g.node_table) (lent_table g.output_table)))

pub returns-in_err-check_triple : goal.returns-in_err-check_triple
unfolding majority_number
returns-in_err-check_triple c =
    none _ _ (sym c.in_ok-check_admission.ensures)
    (none _ _ (is-node (goal.at.returns-in_err-check_triple c).In_ok-check_node)
    (ends_row _ _ _ _ c.from_residual-in_err-check_triple.ensures.1 c.in_err-check_triple.ensures))

pub overflow_sub-node : goal.overflow_sub-node
overflow_sub-node c = (placed (goal.at.overflow_sub-node c).In_ok-check_node).0

pub overflow_sub-node-2 : goal.overflow_sub-node-2
overflow_sub-node-2 c = (placed (goal.at.overflow_sub-node-2 c).In_ok-check_node).1

pub bounds-lent-node : goal.bounds-lent-node
bounds-lent-node c = (placed (goal.at.bounds-lent-node c).In_ok-check_node).2

pub returns-in_err-check_locked : goal.returns-in_err-check_locked
unfolding majority_number
returns-in_err-check_locked c =
    let a = c.args in
    let n = is-node (goal.at.returns-in_err-check_locked c).In_ok-check_node in
    none _ _ (sym c.in_ok-check_admission.ensures)
    (none _ _ n
    (none _ _ (sym c.in_ok-check_triple.ensures)
    (ends_row _ _ _ _ c.from_residual-in_err-check_locked.ensures.1 (lock_is (lent_graph a.lent.now) a.lent.now.locks.now a.node _ _ n refl c.in_err-check_locked.ensures))))

pub check_scratch-requires : goal.check_scratch-requires
check_scratch-requires c =
    (admitted (lent_graph c.args.lent.now) c.args.lent.now.locks.now (sym c.in_ok-check_admission.ensures)).few_nodes

pub returns : goal.returns
unfolding majority_number
returns c =
    let a = c.args in
    let g = a.lent.now in
    let n = is-node (goal.at.returns c).In_ok-check_node in
    none _ _ (sym c.in_ok-check_admission.ensures)
    (none _ _ n
    (none _ _ (sym c.in_ok-check_triple.ensures)
    (none _ _ (sym (lock_is (lent_graph g) g.locks.now a.node _ _ n refl c.in_ok-check_locked.ensures)) (c.check_scratch.ensures g.inputs g.outputs (lent_table g.node_table) (lent_table g.output_table)))))
