-- `pass` meets its contract: the table is that of the nodes passed. From the laws on one node.
use mathlib.Core.Path.{◌≡◌, refl, ◌∙◌}
use mathlib.Core.List.{List}
use Prim.Native.Nat.{ℕ}
use native.Mathlib.Omega.{arith}
use Rattle.graph.specs.Literals.{literals}
use Rattle.evaluation.specs.Inner.{nodes_of}
use Rattle.finder.proofs.Below.{passed_none, passed_next, passed_admitted}
use Rattle.finder.proofs.Rooms.{room_same, room_then}
use Rattle.finder.proofs.Signatures.{signed_none}
use Rattle.finder.proofs.passing.pass.Goals as goal
use Rattle.finder.proofs.passing.pass.Goals.{Start}

abbrev words : Start → List ℕ
words s = literals s.args.node_table.now s.args.node_bits.now

pub loop-v-init : goal.loop-v-init
loop-v-init c =
    (omega arith, room_same _ _, refl, passed_none _ _, c.requires.2, signed_none (nodes_of c.args.inputs c.args.nodes (words (goal.at.loop-v-init c).Start)) c.args.scratch.now)

pub pass_node-requires : goal.pass_node-requires
pass_node-requires c =
    let l = c.loop-v in
    let a = c.args in
    (passed_admitted a.inputs a.nodes (words (goal.at.pass_node-requires c).Start) a.locks.now (literals l.node_table l.node_bits) l.v l.invariant.3 c.requires.0 l.invariant.0, c.loop-v-test.true, c.requires.1, l.invariant.4, l.invariant.5)

pub loop-v-preserved : goal.loop-v-preserved
loop-v-preserved c =
    let o = c.pass_node in
    let l = c.loop-v in
    let a = c.args in (
      omega (arith, c.loop-v-test.true),
      room_then _ _ _ _ l.invariant.1 _ _ o.auto.node_table o.auto.node_bits,
      o.auto.scratch ∙ l.invariant.2,
      passed_next a.inputs a.nodes (words (goal.at.loop-v-preserved c).Start) a.locks.now (literals l.node_table l.node_bits) l.v l.invariant.3 _ _ o.ensures,
      o.ensures.clean,
      o.ensures.signed,
    )

pub shape_of-node_table : goal.shape_of-node_table
shape_of-node_table c = c.loop-v.invariant.1.indices

pub shape_of-node_bits : goal.shape_of-node_bits
shape_of-node_bits c = c.loop-v.invariant.1.bits

pub shape_of-scratch : goal.shape_of-scratch
shape_of-scratch c = c.loop-v.invariant.2

pub returns : goal.returns
returns c =
    let l = c.loop-v in
    let e : l.v ≡ c.args.nodes = omega (arith, c.loop-v-test.false, l.invariant.0) in
    rw e at l.invariant.3
