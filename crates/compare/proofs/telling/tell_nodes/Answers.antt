-- `tell_nodes` meets its contract: the words of the nodes passed are turned as they are to be, and it is noted whose readers are. From the laws of what is
-- noted.
use mathlib.Core.Path.{◌≡◌, refl, ◌∙◌}
use native.Mathlib.Omega.{arith}
use Prim.Native.Nat.{◌+◌, ◌*◌, ◌≤◌}
use Rattle.many.specs.Making.{bare}
use Rattle.compare.specs.Telling.{apart, told}
use Rattle.compare.proofs.Passing.{passing_is}
use Rattle.compare.proofs.Noting.{node_goes, node_stops, word_few, node_noted}
use Rattle.compare.proofs.telling.tell_nodes.Goals as goal
use Rattle.compare.proofs.telling.tell_nodes.Goals.{In-Some}
use Rattle.graph.specs.Tables.{lent_table}

-- a word of a node that is told
module _ (r : In-Some) where
  few : r.in-Some.word ≤ 2
  few =
      let a = r.args in
      let l = r.loop-v in
      word_few a.first.now.inputs a.first.now.nodes (lent_table a.first.now.node_table) a.second_bits.now r.requires.0 l.seen l.v r.loop-v-test.true l.invariant.2 r.tell_node.result r.tell_node.ensures.0 l.invariant.3 r.in-Some.word r.in-Some.is

pub loop-v-init : goal.loop-v-init
loop-v-init c =
    let a = c.args in
    let l = lent_table a.first.now.node_table in
    let g = bare a.first.now.inputs a.first.now.nodes l in
    let e : a.first.now.inputs + 1 ≡ a.first.now.inputs + 1 + 0 = omega arith in
    (omega arith, refl, rw e at (c.requires.2 (told g (apart l a.second_bits.now))), λ j h. absurd (omega arith))

pub tell_node-requires : goal.tell_node-requires
tell_node-requires c =
    (c.requires.0, c.loop-v-test.true, c.requires.1, c.loop-v.invariant.2.room)

pub overflow_cast-result : goal.overflow_cast-result
overflow_cast-result c = omega (arith, c.loop-v-test.true, c.requires.0.few_nodes)

pub overflow_mul-result : goal.overflow_mul-result
overflow_mul-result c = omega (arith, c.loop-v-test.true, c.requires.0.few_nodes)

pub overflow_add-result : goal.overflow_add-result
overflow_add-result c = omega (arith, few (goal.at.overflow_add-result c).In-Some, c.loop-v-test.true, c.requires.0.few_nodes)

pub shape_of-seen-in-Some : goal.shape_of-seen-in-Some
shape_of-seen-in-Some c = c.tell_node.auto.seen ∙ c.loop-v.invariant.1

pub returns-in-Some : goal.returns-in-Some
returns-in-Some c =
    let a = c.args in
    let l = c.loop-v in (
      node_stops a.first.now.inputs a.first.now.nodes (lent_table a.first.now.node_table) a.second_bits.now c.requires.0 l.seen l.v c.loop-v-test.true l.invariant.2 c.tell_node.result c.tell_node.ensures.0 l.invariant.3 c.in-Some.word c.in-Some.is,
      λ e. absurd (omega (arith, e, few (goal.at.returns-in-Some c).In-Some, c.loop-v-test.true)),
    )

pub loop-v-preserved : goal.loop-v-preserved
loop-v-preserved c =
    let a = c.args in
    let l = c.loop-v in (
      omega (arith, c.loop-v-test.true),
      c.tell_node.auto.seen ∙ l.invariant.1,
      node_noted a.first.now.inputs a.first.now.nodes (lent_table a.first.now.node_table) a.second_bits.now c.requires.0 l.seen l.v c.loop-v-test.true l.invariant.2 c.tell_node.new.seen c.tell_node.auto.seen c.tell_node.ensures.1,
      node_goes a.first.now.inputs a.first.now.nodes (lent_table a.first.now.node_table) a.second_bits.now c.requires.0 l.seen l.v c.loop-v-test.true l.invariant.2 c.tell_node.result c.tell_node.ensures.0 l.invariant.3 c.in_default.is,
    )

pub overflow_mul-result-2 : goal.overflow_mul-result-2
overflow_mul-result-2 c = omega (arith, c.requires.0.few_nodes)

pub shape_of-seen : goal.shape_of-seen
shape_of-seen c = c.loop-v.invariant.1

pub returns : goal.returns
returns c =
    let l = c.loop-v in
    let a = c.args in
    let k : l.v ≡ a.first.now.nodes = omega (arith, c.loop-v-test.false, l.invariant.0) in
    (passing_is (3 * a.first.now.nodes) _ (3 * a.first.now.nodes) (omega arith) (rw k at l.invariant.3) (λ h. absurd (omega arith)), λ e. rw k at l.invariant.2)
