-- `entering::enter_row` meets its contract. The invariant: the words from place j on are as they will be. From the laws on entering.
use mathlib.Core.Path.{◌≡◌, refl, ap, ◌∙◌}
use mathlib.Core.List.{List}
use Prim.Native.Nat.{ℕ, ◌+◌, ◌-◌}
use native.Mathlib.Omega.{arith}
use lib.ListN.{get_or, length-set}
use Rattle.class_figures.proofs.Falling.{fallen_left, fallen_start, fallen_end, fallen_next}
use Rattle.class_figures.proofs.entering.enter_row.Goals as goal

pub loop-j-init : goal.loop-j-init
loop-j-init c = let a = c.args in (omega arith, refl, fallen_start a.row.now a.book.now)

pub word_after-w-requires : goal.word_after-w-requires
word_after-w-requires c =
    let a = c.args in
    let j = c.loop-j.j - 1 in
    let e : get_or c.loop-j.book j 0 ≡ get_or a.book.now j 0 =
    ap (λ (b : List ℕ). get_or b j 0) c.loop-j.invariant.2 ∙ fallen_left a.row.now a.book.now c.loop-j.j j (omega (arith, c.requires.0.long)) (omega arith) in
    (omega (arith, c.requires.0.long), omega arith, rw e (c.requires.0.low j (omega arith)), c.requires.1)

pub bounds-book-j : goal.bounds-book-j
bounds-book-j c = omega (arith, c.requires.0.long)

pub loop-j-preserved : goal.loop-j-preserved
loop-j-preserved c =
    let a = c.args in
    let j = c.loop-j.j - 1 in
    let e : j + 1 ≡ c.loop-j.j = omega arith in (
      omega arith,
      simp length-set c.loop-j.invariant.1,
      fallen_next a.row.now a.book.now c.loop-j.book j c.word_after-w.result (omega (arith, c.requires.0.long)) (rw e c.loop-j.invariant.2) c.word_after-w.ensures,
    )

pub returns : goal.returns
returns c =
    let a = c.args in
    let e : c.loop-j.j ≡ 0 = omega arith in
    rw e at c.loop-j.invariant.2 ∙ fallen_end a.row.now a.book.now
