-- `due_of` tells what is pending for an index, and reads it at some node first. From the laws of such a reading.
use mathlib.Core.Path.{sym, ◌∙◌}
use native.Mathlib.Omega.{arith}
use Rattle.moves.proofs.NodeOf.{Nearby}
use Rattle.state.specs.State.{bit_in, pending_at}
use Rattle.state.proofs.Pending.{missed, due_nearby}
use Rattle.state.proofs.writing.due_of.Goals as goal
use Rattle.state.proofs.writing.due_of.Goals.{After-nearest-w}

-- what is read

reading : (n : After-nearest-w)
    → Nearby n.args.nodes (pending_at n.args.inputs n.args.nodes n.args.scratch.now n.args.u) (λ k. bit_in n.args.scratch.now k 0)
    n.node_of-v.result n.nearest-w.result
reading n =
    let a = n.args in
    let v = n.node_of-v in
    due_nearby a.inputs a.nodes a.scratch.now a.u v.result n.nearest-w.result (omega arith) n.requires.few_nodes v.ensures n.nearest-w.ensures

pub returns-then-nodes-eq0 : goal.returns-then-nodes-eq0
returns-then-nodes-eq0 c =
    let a = c.args in
    (missed a.inputs a.nodes a.scratch.now a.u c.node_of-v.result c.node_of-v.ensures (omega arith), omega arith)

pub bounds-scratch-at : goal.bounds-scratch-at
bounds-scratch-at c = omega (arith, (reading (goal.at.bounds-scratch-at c).After-nearest-w).is_node_lem, c.requires.long)

pub returns-then-due-eq0 : goal.returns-then-due-eq0
returns-then-due-eq0 c = (sym ((reading (goal.at.returns-then-due-eq0 c).After-nearest-w).none (sym c.bit_of-due.ensures.0 ∙ c.if-due-eq0.true)), omega arith)

pub returns-then-w-v : goal.returns-then-w-v
returns-then-w-v c = (sym ((reading (goal.at.returns-then-w-v c).After-nearest-w).elsewhere (λ e. omega arith)), omega arith)

pub returns : goal.returns
returns c =
    let b = c.bit_of-due in
    (b.ensures.0 ∙ sym ((reading (goal.at.returns c).After-nearest-w).there (omega arith)).1, b.ensures.1)
