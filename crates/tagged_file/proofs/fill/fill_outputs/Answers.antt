-- `fill_outputs` puts what `single_words` says: what is still to be put, where it goes, comes to the whole. From the laws of the fill pass.
use native.Mathlib.Omega.{arith}
use mathlib.Core.Path.{◌≡◌, refl, ◌∙◌}
use Rattle.graph.specs.Inner.{begun}
use Rattle.graph.specs.Literals.{literals}
use Rattle.graph.proofs.Gathered.{begun_none}
use Rattle.graph.proofs.Literals.{held_literals, held_le}
use Rattle.file_checks.proofs.Checked.{rest}
use Rattle.tagged_file.proofs.Filled.{outputs_left_start, outputs_left_there, outputs_left_more, outputs_left_none}
use Rattle.tagged_file.proofs.fill.fill_outputs.Goals as goal

pub loop-j-init : goal.loop-j-init
loop-j-init c =
    let p = c.requires in
    let b : begun 0 0 c.args.output_bits.now ≡ c.args.output_bits.now = begun_none c.args.output_bits.now 0 0 refl in
    (rw b (outputs_left_start _ _ _ p.outputs), refl, refl)

pub four-requires : goal.four-requires
four-requires c = let l = c.loop-j in omega (arith, outputs_left_there _ _ _ _ l.s.now l.j l.invariant.0 (omega arith))

pub put_word-got-requires : goal.put_word-got-requires
put_word-got-requires c =
    let l = c.loop-j in
    let i = l.invariant.0 in (
      omega (arith, c.requires.outputs_bound, l.invariant.1, l.invariant.2, held_literals l.output_table l.output_bits, held_literals c.args.output_table.now c.args.output_bits.now),
      (λ n. rw c.four.ensures (outputs_left_there _ _ _ _ l.s.now l.j i (omega arith)).low),
    )

pub slice_bounds-s-count : goal.slice_bounds-s-count
slice_bounds-s-count c = let l = c.loop-j in omega (arith, outputs_left_there _ _ _ _ l.s.now l.j l.invariant.0 (omega arith))

pub slice_bounds-s-start : goal.slice_bounds-s-start
slice_bounds-s-start c = let l = c.loop-j in omega (arith, outputs_left_there _ _ _ _ l.s.now l.j l.invariant.0 (omega arith))

pub loop-j-preserved : goal.loop-j-preserved
loop-j-preserved c =
    let l = c.loop-j in
    let f = c.put_word-got in (
      outputs_left_more _ _ _ _ l.s.now l.j l.invariant.0 (omega arith) _ _ (rest 7 l.s.now) (rw c.four.ensures at f.ensures),
      f.auto.table ∙ l.invariant.1,
      f.auto.bits ∙ l.invariant.2,
    )

pub put_last-requires : goal.put_last-requires
put_last-requires c = omega (arith, c.loop-j.invariant.2, c.requires.outputs_bound, held_literals c.args.output_table.now c.args.output_bits.now)

pub shape_of-output_table : goal.shape_of-output_table
shape_of-output_table c = c.loop-j.invariant.1

pub shape_of-output_bits : goal.shape_of-output_bits
shape_of-output_bits c = c.put_last.auto.bits ∙ c.loop-j.invariant.2

pub returns : goal.returns
returns c =
    let l = c.loop-j in
    let p = c.put_last in
    let r = outputs_left_none _ _ _ _ l.s.now l.j l.invariant.0 (omega arith) (omega (arith, c.requires.outputs_bound, held_le (literals c.args.output_table.now c.args.output_bits.now))) in
    let e : l.j ≡ c.args.outputs = omega arith in
    record { result_value = r.0; output_bits_after = rw p.ensures (rw e at r.1) }
