-- `pending_of` reads bit 0 of field 2 of a node, and 0 at an index that is none. From the laws of what is pending.
use mathlib.Core.Path.{◌∙◌}
use native.Mathlib.Omega.{arith}
use Rattle.state.proofs.Pending.{missed, found}
use Rattle.state.proofs.now.pending_of.Goals as goal

pub returns-then-nodes-v : goal.returns-then-nodes-v
returns-then-nodes-v c =
    let a = c.args in
    (missed a.inputs a.nodes a.scratch.now a.u c.node_of-v.result c.node_of-v.ensures (omega arith), omega arith)

pub returns : goal.returns
returns c =
    let a = c.args in
    (c.bit_of.ensures.0 ∙ found a.inputs a.nodes a.scratch.now a.u c.node_of-v.result c.node_of-v.ensures c.requires.few_nodes (omega arith), c.bit_of.ensures.1)
