-- `reading::latest_total` meets its contract: the sum over the rows passed. From what a record holds.
use mathlib.Core.Path.{◌≡◌, refl, ap, ◌∙◌}
use Prim.Native.Nat.{ℕ, ◌+◌, ◌*◌}
use native.Mathlib.Numerals.{add-one}
use native.Mathlib.Omega.{arith}
use lib.ListN.{get_or}
use Rattle.graph.specs.Finite.{sum}
use Rattle.class_figures.specs.Call.{latest_total}
use Rattle.class_figures.proofs.reading.latest_total.Goals as goal

pub loop-i-init : goal.loop-i-init
unfolding sum
loop-i-init c = (omega arith, omega arith, refl)

pub bounds-book-i : goal.bounds-book-i
bounds-book-i c = omega (arith, c.requires.0.long)

pub overflow_add-sum-in-loop-i-2 : goal.overflow_add-sum-in-loop-i-2
overflow_add-sum-in-loop-i-2 c =
    omega (arith, c.requires.0.low (6 + 5 * c.loop-i.i + c.args.k) (omega arith))

pub loop-i-preserved : goal.loop-i-preserved
unfolding sum
loop-i-preserved c =
    let h = c.requires.0.low (6 + 5 * c.loop-i.i + c.args.k) (omega arith) in
    (omega arith, omega arith, rw (add-one c.loop-i.i) (omega (arith, c.loop-i.invariant.2)))

pub returns : goal.returns
unfolding latest_total
returns c =
    let e : c.loop-i.i ≡ 16 = omega arith in
    (c.loop-i.invariant.2 ∙ ap (λ (n : ℕ). sum n (λ i. get_or c.args.book.now (6 + 5 * i + c.args.k) 0)) e, omega arith)
