-- `pass_node` meets its contract. From the laws on what lies below a node and on signatures.
use native.Mathlib.Omega.{arith}
use Rattle.graph.specs.Graph.{Graph}
use Rattle.graph.specs.Literals.{literals}
use Rattle.evaluation.specs.Inner.{nodes_of}
use Rattle.finder.specs.Signs.{SignSet}
use Rattle.finder.specs.Ways.{Led}
use Rattle.finder.proofs.Below.{signed_clean, stepped}
use Rattle.finder.proofs.passing.pass_node.Goals as goal
use Rattle.finder.proofs.passing.pass_node.Goals.{Start}

abbrev graph : Start → Graph
graph s = nodes_of s.args.inputs s.args.nodes (literals s.args.node_table.now s.args.node_bits.now)

pub set_sign-requires : goal.set_sign-requires
set_sign-requires c = (c.requires.0, c.requires.3.room, omega (arith, c.requires.1, c.wide-w.ensures))

pub change_node-requires : goal.change_node-requires
change_node-requires c =
    let o = c.set_sign in
    let a = c.args in
    let set : SignSet (graph (goal.at.change_node-requires c).Start) a.v a.scratch.now _ = rw c.wide-w.ensures at o.ensures in
    (c.requires.0, c.requires.1, c.requires.2, signed_clean (graph (goal.at.change_node-requires c).Start) a.v a.scratch.now _ c.requires.3 set, set.signed c.requires.4)

pub set_down-requires : goal.set_down-requires
set_down-requires c =
    let o = c.change_node in
    (o.ensures.admitted, omega (arith, c.requires.1, c.wide-w.ensures), o.ensures.clean.room)

pub returns : goal.returns
returns c =
    let o = c.change_node in
    let a = c.args in
    let l : Led _ a.v _ _ = rw c.wide-w.ensures at c.set_down.ensures in
    stepped (graph (goal.at.returns c).Start) a.locks.now a.v _ _ _ c.requires.1 o.ensures l
