-- `renumbered` meets its contract. From the laws on tests.
use mathlib.Core.Path.{◌≡◌, refl, ap}
use Prim.Native.Nat.{ℕ, ◌+◌, ◌-◌, ◌*◌, ◌/◌, ◌%◌, ◌<◌}
use native.Mathlib.Omega.{arith}
use lib.ListN.{length, get_or}
use Rattle.graph.proofs.Tests.{less, no_less}
use Rattle.finder.specs.Compacting.{renumber_by}
use Rattle.finder.proofs.compacting.renumbered.Goals as goal

place : (w y i : ℕ) → w ≡ y - i - 1 → w ≡ y - (i + 1)
place w y i e = omega arith

inside : (w y i l : ℕ) → w ≡ y - i - 1 → y < i + 1 + l → i < y → w < l
inside w y i l e h k = omega arith

low : (n b : ℕ) → n < 1000000 → b < 2 → (2 * n < 4294967296) × (2 * n + b < 4294967296)
low n b h k = (omega arith, omega arith)

pub returns-then-index-inputs : goal.returns-then-index-inputs
unfolding renumber_by
returns-then-index-inputs c = no_less _ _ _ _ c.if-index-inputs.true refl

pub bounds-scratch-wide : goal.bounds-scratch-wide
bounds-scratch-wide c =
    let a = c.args in
    inside c.wide.result (a.x / 2) a.inputs (length a.scratch.now) c.wide.ensures (c.requires.number (omega (arith, c.if-index-inputs.false))).0 (omega (arith, c.if-index-inputs.false))

pub overflow_mul-result : goal.overflow_mul-result
overflow_mul-result c =
    let a = c.args in
    let e = place c.wide.result (a.x / 2) a.inputs c.wide.ensures in
    let h : get_or a.scratch.now c.wide.result 0 < 1000000 = rw e (c.requires.number (omega (arith, c.if-index-inputs.false))).1 in
    record { fits = (low _ 0 h (omega arith)).0 }

pub overflow_add-result : goal.overflow_add-result
overflow_add-result c =
    let a = c.args in
    let e = place c.wide.result (a.x / 2) a.inputs c.wide.ensures in
    let h : get_or a.scratch.now c.wide.result 0 < 1000000 = rw e (c.requires.number (omega (arith, c.if-index-inputs.false))).1 in
    record { fits = (low _ (a.x % 2) h (omega arith)).1 }

pub returns : goal.returns
unfolding renumber_by
returns c =
    let a = c.args in
    let e = place c.wide.result (a.x / 2) a.inputs c.wide.ensures in
    less _ _ _ _ (omega (arith, c.if-index-inputs.false)) (ap (λ (k : ℕ). 2 * get_or a.scratch.now k 0 + a.x % 2) e)
