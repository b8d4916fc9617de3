-- `turn_nodes` meets its contract: the words of the nodes passed are turned and their indices noted, and the next node's place in the list is
-- known. From the laws of the sweep and of a rising list.
use mathlib.Core.Path.{◌≡◌, refl, ap, ◌∙◌}
use mathlib.Core.List.{List}
use native.Mathlib.Omega.{arith}
use Prim.Native.Nat.{ℕ, ◌+◌, ◌*◌, ◌<◌}
use Rattle.graph.specs.Literals.{literals}
use Rattle.moves.specs.Apply.{Choice}
use Rattle.moves.specs.Rows.{kind_moves}
use Rattle.many.specs.Making.{Ready, bare, chosen, nodes_to}
use Rattle.many.proofs.Rising.{stands_first}
use Rattle.many.proofs.Sweeping.{chosen_has, to_start, ready_to}
use Rattle.many.proofs.making.turn_nodes.Goals as goal
use Rattle.many.proofs.making.turn_nodes.Goals.{After-move_at-m, In-loop-v, Start}

abbrev table : Start → List ℕ
table s = literals s.args.node_table.now s.args.node_bits.now

abbrev choice : Start → Choice
choice s = chosen s.args.list.now s.args.bytes.now

-- inside the loop

module _ (c : In-loop-v) where
  ready : let a = c.args in Ready a.inputs a.nodes (literals a.node_table.now c.loop-v.node_bits) a.list.now a.bytes.now
  ready = let l = c.loop-v in let a = c.args in ready_to a.inputs a.nodes ((chosen c.args.list.now c.args.bytes.now)) ((literals c.args.node_table.now c.args.node_bits.now)) (3 * l.v) (literals a.node_table.now l.node_bits) l.invariant.4 a.list.now a.bytes.now c.requires.0

-- the move that was found is one that the node's kind has

found-has : (c : After-move_at-m) → let a = c.args in Ready a.inputs a.nodes (literals a.node_table.now c.loop-v.node_bits) a.list.now a.bytes.now →
    c.move_at-m.result < kind_moves (bare a.inputs a.nodes (literals a.node_table.now c.loop-v.node_bits)) (a.inputs + 1 + c.loop-v.v)
found-has c r =
    let a = c.args in
    let l = c.loop-v in
    rw c.move_at-m.ensures (chosen_has (bare a.inputs a.nodes (literals a.node_table.now l.node_bits)) a.list.now a.bytes.now r.listed (a.inputs + 1 + l.v))

pub loop-v-init : goal.loop-v-init
loop-v-init c =
    let a = c.args in
    let e : a.inputs + 1 ≡ a.inputs + 1 + 0 = omega arith in
    (omega arith, refl, refl, rw e at (stands_first a.list.now a.inputs c.requires.0.listed.nodes), to_start a.inputs a.nodes (choice (goal.at.loop-v-init c).Start) (table (goal.at.loop-v-init c).Start), rw e at c.requires.1)

pub overflow_add-u : goal.overflow_add-u
overflow_add-u c = let d = c.requires.0.admitted in omega (arith, d.few_inputs)

pub overflow_add-u-in-loop-v : goal.overflow_add-u-in-loop-v
overflow_add-u-in-loop-v c = let d = c.requires.0.admitted in omega (arith, d.few_inputs, d.few_nodes, c.loop-v-test.true)

pub move_at-m-requires : goal.move_at-m-requires
move_at-m-requires c = let d = c.requires.0.listed in (d.rises, d.enough, c.loop-v.invariant.3)

pub turn_node-requires : goal.turn_node-requires
turn_node-requires c =
    ((ready (goal.at.turn_node-requires c).In-loop-v).admitted, c.loop-v-test.true, found-has (goal.at.turn_node-requires c).After-move_at-m (ready (goal.at.turn_node-requires c).In-loop-v), c.loop-v.invariant.5.room)

pub next_place-k-requires : goal.next_place-k-requires
next_place-k-requires c = (c.requires.0.listed.rises, c.loop-v.invariant.3)

pub loop-v-smaller : goal.loop-v-smaller
loop-v-smaller c = omega (arith, c.loop-v-test.true)

pub loop-v-preserved : goal.loop-v-preserved
loop-v-preserved c =
    let l = c.loop-v in
    let a = c.args in
    let q = c.turn_node.ensures (choice (goal.at.loop-v-preserved c).Start) (table (goal.at.loop-v-preserved c).Start) c.requires.0.admitted l.invariant.5 c.move_at-m.ensures l.invariant.4 in
    let e : 3 * l.v + 3 ≡ 3 * (l.v + 1) = omega arith in
    let u : a.inputs + 1 + l.v + 1 ≡ a.inputs + 1 + (l.v + 1) = omega arith in (
      omega (arith, c.loop-v-test.true),
      c.turn_node.auto.node_bits ∙ l.invariant.1,
      c.turn_node.auto.seen ∙ l.invariant.2,
      rw u at c.next_place-k.ensures,
      q.0 ∙ ap (nodes_to a.inputs a.nodes (table (goal.at.loop-v-preserved c).Start) (choice (goal.at.loop-v-preserved c).Start)) e,
      rw u at q.1,
    )

pub shape_of-node_bits : goal.shape_of-node_bits
shape_of-node_bits c = c.loop-v.invariant.1

pub shape_of-seen : goal.shape_of-seen
shape_of-seen c = c.loop-v.invariant.2

pub returns : goal.returns
returns c =
    let l = c.loop-v in
    let a = c.args in
    let k : l.v ≡ a.nodes = omega (arith, c.loop-v-test.false, l.invariant.0) in
    (l.invariant.4 ∙ ap (λ (y : ℕ). nodes_to a.inputs a.nodes (table (goal.at.returns c).Start) (choice (goal.at.returns c).Start) (3 * y)) k, rw k at l.invariant.5)
