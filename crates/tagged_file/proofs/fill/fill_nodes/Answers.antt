-- `fill_nodes` puts what `node_words` says: what is still to be put, where it goes, comes to the whole. From the laws of the fill pass.
use native.Mathlib.Omega.{arith}
use Prim.Native.Nat.{◌+◌, ◌*◌}
use mathlib.Core.Path.{◌≡◌, refl, ◌∙◌}
use Rattle.graph.specs.Inner.{begun}
use Rattle.graph.specs.Literals.{literals}
use Rattle.graph.proofs.Gathered.{begun_none}
use Rattle.graph.proofs.Literals.{held_literals, held_le}
use Rattle.file_checks.proofs.Checked.{rest_at}
use Rattle.tagged_file.proofs.Filled.{nodes_left_start, nodes_left_there, nodes_left_more, nodes_left_none}
use Rattle.tagged_file.proofs.fill.fill_nodes.Goals as goal

pub loop-v-init : goal.loop-v-init
loop-v-init c =
    let p = c.requires in
    let b : begun 0 0 c.args.node_bits.now ≡ c.args.node_bits.now = begun_none c.args.node_bits.now 0 0 refl in
    (rw b (nodes_left_start _ _ _ p.nodes), refl, refl)

pub fill_node-got-requires : goal.fill_node-got-requires
fill_node-got-requires c =
    let l = c.loop-v in
    let i = l.invariant.0 in (
      nodes_left_there _ _ _ _ l.s.now l.v i (omega arith),
      omega (arith, c.requires.nodes_bound, l.invariant.1, l.invariant.2, held_literals l.node_table l.node_bits, held_literals c.args.node_table.now c.args.node_bits.now),
    )

pub node_size-requires : goal.node_size-requires
node_size-requires c = let l = c.loop-v in omega (arith, (nodes_left_there _ _ _ _ l.s.now l.v l.invariant.0 (omega arith)).room)

pub slice_bounds-s-count : goal.slice_bounds-s-count
slice_bounds-s-count c = let l = c.loop-v in omega (arith, (nodes_left_there _ _ _ _ l.s.now l.v l.invariant.0 (omega arith)).room)

pub slice_bounds-s-start : goal.slice_bounds-s-start
slice_bounds-s-start c = let l = c.loop-v in omega (arith, (nodes_left_there _ _ _ _ l.s.now l.v l.invariant.0 (omega arith)).room)

pub loop-v-preserved : goal.loop-v-preserved
loop-v-preserved c =
    let l = c.loop-v in
    let f = c.fill_node-got in
    let z = c.node_size in
    let q : 3 * l.v + 3 ≡ 3 * (l.v + 1) = omega arith in (
      nodes_left_more _ _ _ _ l.s.now l.v l.invariant.0 (omega arith) _ _ (rest_at _ _ _ z.ensures.0) (rw q at f.ensures),
      f.auto.node_table ∙ l.invariant.1,
      f.auto.node_bits ∙ l.invariant.2,
    )

pub put_last-requires : goal.put_last-requires
put_last-requires c = omega (arith, c.loop-v.invariant.2, c.requires.nodes_bound, held_literals c.args.node_table.now c.args.node_bits.now)

pub shape_of-node_table : goal.shape_of-node_table
shape_of-node_table c = c.loop-v.invariant.1

pub shape_of-node_bits : goal.shape_of-node_bits
shape_of-node_bits c = c.put_last.auto.bits ∙ c.loop-v.invariant.2

pub returns : goal.returns
returns c =
    let l = c.loop-v in
    let p = c.put_last in
    let r = nodes_left_none _ _ _ _ l.s.now l.v l.invariant.0 (omega arith) (omega (arith, c.requires.nodes_bound, held_le (literals c.args.node_table.now c.args.node_bits.now))) in
    let e : l.v ≡ c.args.nodes = omega arith in
    record { result_value = r.0; node_bits_after = rw p.ensures (rw e at r.1) }
