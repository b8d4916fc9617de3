-- `check_node` meets its contract. Assumes nothing.
use Rattle.std.proofs.Common.{◌+◌, le-ltb, lt-ltb}
use mathlib.Core.Bool.{and-false}
use Rattle.moves.specs.Call.{node_fault, is_node}
use Rattle.moves.proofs.faults.check_node.Goals as goal

pub returns-then-node-inputs : goal.returns-then-node-inputs
unfolding node_fault is_node
returns-then-node-inputs c = λ o ns os. rw (le-ltb c.args.inputs c.args.node c.if-node-inputs.true)

pub returns-then-node-inputs-2 : goal.returns-then-node-inputs-2
unfolding node_fault is_node
returns-then-node-inputs-2 c =
    λ o ns os.
    let a = c.args in
    rw (lt-ltb a.inputs a.node c.if-node-inputs.false, lt-ltb a.node (a.inputs + 1 + a.nodes) c.if-node-inputs-2.true)

pub returns : goal.returns
unfolding node_fault is_node
returns c =
    λ o ns os.
    let a = c.args in
    rw (le-ltb a.node (a.inputs + 1 + a.nodes) c.if-node-inputs-2.false, and-false)
