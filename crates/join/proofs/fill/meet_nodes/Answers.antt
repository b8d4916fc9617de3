-- `fill::meet_nodes` meets its contract. The invariant: the words of the nodes so far are put. From the laws of filling.
use mathlib.Core.Path.{◌≡◌, refl, ap, ◌∙◌}
use Prim.Native.Nat.{ℕ, ◌+◌, ◌*◌}
use native.Mathlib.Omega.{arith}
use Rattle.graph.specs.Literals.{literals}
use Rattle.graph.proofs.Literals.{held_literals}
use Rattle.join.specs.Filling.{met_word_by}
use Rattle.join.proofs.Filling.{none_put, node_next, stand_less}
use Rattle.join.proofs.fill.meet_nodes.Goals as goal
use Rattle.graph.specs.Tables.{lent_table}

pub loop-v-init : goal.loop-v-init
loop-v-init c = let a = c.args in (omega arith, none_put a.joined_node_table.now a.joined_node_bits.now a.start a.got _, refl, refl)

pub meet_node-more-requires : goal.meet_node-more-requires
meet_node-more-requires c =
    let l = c.loop-v in
    record {
      stand = stand_less (l.v + 1) _ _ (omega arith) c.requires.stand;
      at_bound = omega (arith, c.requires.start_bound, l.invariant.2, l.invariant.3, held_literals l.joined_node_table l.joined_node_bits, held_literals c.args.joined_node_table.now c.args.joined_node_bits.now);
    }

pub loop-v-preserved : goal.loop-v-preserved
loop-v-preserved c =
    let f = c.meet_node-more in
    let l = c.loop-v in
    let a = c.args in
    let word : ℕ → ℕ = met_word_by (lent_table a.second_node_table.now) (lent_table a.front.now.outputs) a.front.now.base a.front.now.inputs in (
      omega arith,
      node_next a.start (a.start + 3 * l.v) l.v (a.start + 3 * (l.v + 1)) (a.start + 3 * l.v + 3) f.result word _ _ _ _ refl (omega arith) l.invariant.1 f.ensures,
      f.auto.joined_node_table ∙ l.invariant.2,
      f.auto.joined_node_bits ∙ l.invariant.3,
    )

pub put_last-requires : goal.put_last-requires
put_last-requires c =
    let l = c.loop-v in
    omega (arith, c.requires.start_bound, l.invariant.3, held_literals c.args.joined_node_table.now c.args.joined_node_bits.now)

pub shape_of-joined_node_table : goal.shape_of-joined_node_table
shape_of-joined_node_table c = c.loop-v.invariant.2

pub shape_of-joined_node_bits : goal.shape_of-joined_node_bits
shape_of-joined_node_bits c = c.put_last.auto.bits ∙ c.loop-v.invariant.3

pub returns : goal.returns
returns c =
    let l = c.loop-v in
    let e : l.v ≡ c.args.second_nodes = omega arith in
    ap (literals l.joined_node_table) c.put_last.ensures ∙ rw e at l.invariant.1
