-- `lines::read_line` meets its contract. The invariant: so many of the line's numbers are read. From the laws on lines read.
use mathlib.Core.Path.{refl}
use native.Mathlib.Omega.{arith}
use lib.ListN.{length-set}
use Rattle.file_checks.proofs.Checked.{rest}
use Rattle.aiger_import.proofs.Walked.{walked_start, ends, space_fault, newline_fault, walked_more, walked_last}
use Rattle.aiger_import.proofs.lines.read_line.Goals as goal

pub loop-j-init : goal.loop-j-init
loop-j-init c = (walked_start _ _ _, refl)

pub slice_bounds-number_at-start : goal.slice_bounds-number_at-start
slice_bounds-number_at-start c = omega (arith, c.loop-j.invariant.0.within)

pub returns-in_err-n : goal.returns-in_err-n
returns-in_err-n c =
    space_fault _ _ _ _ _ c.loop-j.invariant.0 _ _ (rest c.loop-j.at _) c.loop-j-test.true refl _ _ c.from_residual.ensures.1 c.in_err-n.ensures

pub overflow_add-at : goal.overflow_add-at
overflow_add-at c = omega (arith, ends _ _ _ _ _ c.loop-j.invariant.0 _ _ (rest c.loop-j.at _) _ c.in_ok-n.ensures)

pub loop-j-preserved : goal.loop-j-preserved
loop-j-preserved c =
    let i = c.loop-j.invariant in
    (walked_more _ _ _ _ _ i.0 _ _ (rest c.loop-j.at _) _ c.in_ok-n.ensures c.loop-j-test.true refl (omega arith), simp length-set i.1)

pub returns-in_err-n-2 : goal.returns-in_err-n-2
returns-in_err-n-2 c =
    newline_fault _ _ _ _ _ c.loop-j.invariant.0 _ _ (rest c.loop-j.at _) c.loop-j-test.false refl _ _ c.from_residual-in_err-n-2.ensures.1 c.in_err-n-2.ensures

pub slice_bounds-number_at-start-2 : goal.slice_bounds-number_at-start-2
slice_bounds-number_at-start-2 c = omega (arith, c.loop-j.invariant.0.within)

pub overflow_add-result : goal.overflow_add-result
overflow_add-result c = omega (arith, ends _ _ _ _ _ c.loop-j.invariant.0 _ _ (rest c.loop-j.at _) _ c.in_ok-n-2.ensures)

pub shape_of-numbers : goal.shape_of-numbers
shape_of-numbers c = simp length-set c.loop-j.invariant.1

pub returns : goal.returns
returns c =
    walked_last _ _ _ _ _ c.loop-j.invariant.0 _ _ (rest c.loop-j.at _) _ c.in_ok-n-2.ensures c.loop-j-test.false refl (omega arith)
