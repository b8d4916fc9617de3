-- `fill::fill_outputs` meets its contract. The invariant: so many lines are passed, and so many words put. From the laws of the fill pass.
use mathlib.Core.Path.{◌≡◌, refl, ◌∙◌}
use Prim.Native.Nat.{◌+◌}
use native.Mathlib.Omega.{arith}
use Rattle.file_checks.proofs.Checked.{rest}
use Rattle.graph.specs.Literals.{literals}
use Rattle.graph.proofs.Filled.{filled_start}
use Rattle.graph.proofs.Literals.{held_literals, held_le}
use Rattle.aiger_import.proofs.Filled.{past, output_next}
use Rattle.aiger_import.proofs.fill.fill_outputs.Goals as goal

pub loop-j-init : goal.loop-j-init
loop-j-init c = (refl, omega arith, filled_start _ _ _, refl, refl)

pub fill_output-put-requires : goal.fill_output-put-requires
fill_output-put-requires c =
    let l = c.loop-j in (
      rw l.invariant.0 (c.requires.0 l.j c.loop-j-test.true),
      omega (arith, c.loop-j-test.true, c.requires.1, l.invariant.3, l.invariant.4, held_literals l.output_table l.output_bits, held_literals c.args.output_table.now c.args.output_bits.now),
    )

pub slice_bounds-s-count : goal.slice_bounds-s-count
slice_bounds-s-count c = omega (arith, c.fill_output-put.ensures.0.0)

pub slice_bounds-s-start : goal.slice_bounds-s-start
slice_bounds-s-start c = omega (arith, c.fill_output-put.ensures.0.0)

pub loop-j-preserved : goal.loop-j-preserved
loop-j-preserved c =
    let a = c.args in
    let s = c.loop-j.s.now in
    let n = c.fill_output-put.result.size in
    let e = c.fill_output-put.ensures in
    let o = literals a.output_table.now a.output_bits.now in (
      past a.rest.now s _ c.loop-j.j 1 n (c.loop-j.j + 1) c.loop-j.invariant.0 (rest n s) e.0.1 refl,
      omega arith,
      e.1 ∙ output_next a.rest.now o _ s c.loop-j.j (omega (arith, c.loop-j-test.true, c.requires.1, held_le o)) c.loop-j.invariant.0 c.loop-j.invariant.2,
      c.fill_output-put.auto.output_table ∙ c.loop-j.invariant.3,
      c.fill_output-put.auto.output_bits ∙ c.loop-j.invariant.4,
    )

pub put_last-requires : goal.put_last-requires
put_last-requires c = omega (arith, c.loop-j.invariant.4, c.requires.1, held_literals c.args.output_table.now c.args.output_bits.now)

pub shape_of-output_table : goal.shape_of-output_table
shape_of-output_table c = c.loop-j.invariant.3

pub shape_of-output_bits : goal.shape_of-output_bits
shape_of-output_bits c = c.put_last.auto.bits ∙ c.loop-j.invariant.4

pub returns : goal.returns
returns c =
    let i = c.loop-j.invariant in
    let e : c.loop-j.j ≡ c.args.outputs = omega arith in
    record { result_value = rw e at i.0; output_bits_after = rw c.put_last.ensures (rw e at i.2) }
