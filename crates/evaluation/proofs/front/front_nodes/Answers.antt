-- `front::front_nodes` meets its contract. The invariant: the words of the nodes passed are filled in. From the contract of one.
use mathlib.Core.Path.{◌≡◌, refl, subst}
use Prim.Native.Nat.{ℕ}
use native.Mathlib.Omega.{arith}
use Rattle.evaluation.specs.Inner.{nodes_of, Front}
use Rattle.evaluation.proofs.front.front_nodes.Goals as goal
use Rattle.graph.specs.Tables.{lent_table}

pub loop-v-init : goal.loop-v-init
loop-v-init c = (omega arith, refl, λ n ws h. h)

pub front_node-requires : goal.front_node-requires
front_node-requires c =
    (c.requires.2 c.loop-v.v (omega arith), omega (arith, c.requires.0), omega (arith, c.requires.1, c.loop-v.invariant.1))

pub loop-v-preserved : goal.loop-v-preserved
loop-v-preserved c =
    (omega arith, omega (arith, c.front_node.auto.scratch, c.loop-v.invariant.1), λ n ws h. c.front_node.ensures n ws (c.loop-v.invariant.2 n ws h))

pub returns : goal.returns
returns c n ws h =
    let a = c.args in
    let e : c.loop-v.v ≡ a.end = omega arith in
    subst (λ (i : ℕ). Front (nodes_of a.lent.now.inputs n (lent_table a.lent.now.node_table)) ws c.loop-v.scratch i) e (c.loop-v.invariant.2 n ws h)
