-- `values::fill_rest` meets its contract. The invariant: the words of the nodes passed are filled in. From the contract of one.
use mathlib.Core.Path.{◌≡◌, refl, subst}
use Prim.Native.Nat.{ℕ}
use native.Mathlib.Omega.{arith}
use lib.ListN.{take}
use Rattle.evaluation.specs.Inner.{NodeWords, nodes_of}
use Rattle.evaluation.proofs.values.fill_rest.Goals as goal
use Rattle.graph.specs.Tables.{lent_table}

pub loop-v-init : goal.loop-v-init
loop-v-init c = (omega arith, refl, λ n h. h)

pub fill_node-requires : goal.fill_node-requires
fill_node-requires c =
    (c.requires.0, omega (arith, c.requires.1, c.loop-v.invariant.1), omega (arith, c.requires.2), c.requires.3 c.loop-v.v (omega arith))

pub loop-v-preserved : goal.loop-v-preserved
loop-v-preserved c =
    (omega arith, omega (arith, c.fill_node.auto.scratch, c.loop-v.invariant.1), λ n h. c.fill_node.ensures n (c.loop-v.invariant.2 n h))

pub returns : goal.returns
returns c n h =
    let a = c.args in
    let e : c.loop-v.v ≡ a.end = omega arith in
    subst (λ (i : ℕ). NodeWords (nodes_of a.lent.now.inputs n (lent_table a.lent.now.node_table)) a.input_words.now (take i c.loop-v.scratch) i) e (c.loop-v.invariant.2 n h)
