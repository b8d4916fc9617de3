-- `entering::word_after` meets its contract: each stretch of the record. From the laws on entering.
use mathlib.Core.Path.{◌≡◌, sym, ap, ◌∙◌}
use Prim.Native.Nat.{ℕ, ◌-◌}
use native.Mathlib.Omega.{arith}
use lib.ListN.{get_or}
use Rattle.class_figures.specs.Call.{entered_at}
use Rattle.class_figures.proofs.Falling.{at_count, at_total, at_newest, at_older}
use Rattle.class_figures.proofs.entering.word_after.Goals as goal

pub overflow_add-result : goal.overflow_add-result
overflow_add-result c =
    let e : get_or c.args.book.now c.args.j 0 ≡ get_or c.args.book.now 0 0 = ap (λ (j : ℕ). get_or c.args.book.now j 0) c.if-j-eq0.true in
    omega (arith, c.requires.2)

pub returns-then-j-eq0 : goal.returns-then-j-eq0
returns-then-j-eq0 c =
    at_count c.args.row.now c.args.book.now ∙ ap (entered_at c.args.row.now c.args.book.now) (sym c.if-j-eq0.true)

pub overflow_add-result-then-j-lt6 : goal.overflow_add-result-then-j-lt6
overflow_add-result-then-j-lt6 c = omega (arith, c.requires.2, c.requires.3 (c.args.j - 1) (omega arith))

pub returns-then-j-lt6 : goal.returns-then-j-lt6
returns-then-j-lt6 c = at_total c.args.row.now c.args.book.now c.args.j (omega arith) (omega arith)

pub returns-then-j-lt11 : goal.returns-then-j-lt11
returns-then-j-lt11 c = at_newest c.args.row.now c.args.book.now c.args.j (omega arith) (omega arith) (omega arith)

pub returns : goal.returns
returns c =
    at_older c.args.row.now c.args.book.now c.args.j (omega arith) (omega arith) (omega arith) (omega arith)
