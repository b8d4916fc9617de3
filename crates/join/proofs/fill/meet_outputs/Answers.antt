-- `fill::meet_outputs` meets its contract. The invariant: the outputs so far are put. From the laws of filled tables.
use mathlib.Core.Path.{◌≡◌, refl, ap, ◌∙◌}
use native.Mathlib.Omega.{arith}
use Rattle.graph.specs.Literals.{literals}
use Rattle.graph.proofs.Filled.{filled_start}
use Rattle.graph.proofs.Literals.{held_literals, held_le}
use Rattle.join.proofs.Filling.{output_next}
use Rattle.join.proofs.fill.meet_outputs.Goals as goal
use Rattle.graph.specs.Tables.{lent_table}

pub loop-j-init : goal.loop-j-init
loop-j-init c = let a = c.args in (omega arith, filled_start a.joined_output_table.now a.joined_output_bits.now _, refl, refl)

pub edge_at-x-requires : goal.edge_at-x-requires
edge_at-x-requires c =
    let l = c.loop-j in
    (omega (arith, c.requires.fact.0), omega (arith, c.requires.fact.1 l.j (omega arith)))

pub met-y-requires : goal.met-y-requires
met-y-requires c =
    let l = c.loop-j in
    rw c.edge_at-x.ensures (c.requires.fact.1 l.j (omega arith))

pub put_word-got-requires : goal.put_word-got-requires
put_word-got-requires c =
    let l = c.loop-j in
    (omega (arith, c.requires.outputs_bound, l.invariant.2, l.invariant.3, held_literals l.joined_output_table l.joined_output_bits, held_literals c.args.joined_output_table.now c.args.joined_output_bits.now), λ n. omega (arith, c.met-y.ensures.1))

pub loop-j-preserved : goal.loop-j-preserved
loop-j-preserved c =
    let l = c.loop-j in
    let a = c.args in (
      omega arith,
      output_next (lent_table a.second_output_table.now) (lent_table a.front.now.outputs) a.front.now.base a.front.now.inputs (literals a.joined_output_table.now a.joined_output_bits.now) _ _ l.j _ _ (omega (arith, c.requires.outputs_bound, held_le (literals a.joined_output_table.now a.joined_output_bits.now))) l.invariant.1 c.edge_at-x.ensures c.met-y.ensures.0 c.put_word-got.ensures,
      c.put_word-got.auto.table ∙ l.invariant.2,
      c.put_word-got.auto.bits ∙ l.invariant.3,
    )

pub put_last-requires : goal.put_last-requires
put_last-requires c =
    let l = c.loop-j in
    omega (arith, c.requires.outputs_bound, l.invariant.3, held_literals c.args.joined_output_table.now c.args.joined_output_bits.now)

pub shape_of-joined_output_table : goal.shape_of-joined_output_table
shape_of-joined_output_table c = c.loop-j.invariant.2

pub shape_of-joined_output_bits : goal.shape_of-joined_output_bits
shape_of-joined_output_bits c = c.put_last.auto.bits ∙ c.loop-j.invariant.3

pub returns : goal.returns
returns c =
    let l = c.loop-j in
    let e : l.j ≡ c.args.outputs = omega arith in
    ap (literals l.joined_output_table) c.put_last.ensures ∙ rw e at l.invariant.1
