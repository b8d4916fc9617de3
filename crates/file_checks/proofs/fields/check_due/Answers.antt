-- `check_due` tests what `due_number` does, in its order. From the laws on tests.
use native.Mathlib.Omega.{arith}
use Rattle.graph.proofs.Tests.{less, no_less, equal, unequal}
use mathlib.Core.Path.{refl}
use Prim.Native.Nat.{ℕ, ◌<◌}
use mathlib.Core.List.{List}
use lib.ListN.{get_or}
use Rattle.std.proofs.Common.{Fits, w8}
use Rattle.file_checks.specs.File.{be2, due_number}
use Rattle.file_checks.proofs.fields.check_due.Goals as goal

-- two bytes say less than 65536
be2_low : (s : List ℕ) → Fits w8 (get_or s 1 0) → Fits w8 (get_or s 2 0) → be2 s 1 < 65536
unfolding be2
be2_low s a b = omega arith

pub returns-then-s-lt3 : goal.returns-then-s-lt3
unfolding due_number
returns-then-s-lt3 c = less _ _ _ _ (omega arith) (refl)

pub returns-then-tag-low : goal.returns-then-tag-low
unfolding due_number
returns-then-tag-low c = no_less _ _ _ _ (omega arith) (less _ _ _ _ (omega arith) (refl))

pub returns-then-high-tag : goal.returns-then-high-tag
unfolding due_number
returns-then-high-tag c = no_less _ _ _ _ (omega arith) (no_less _ _ _ _ (omega arith) (less _ _ _ _ (omega arith) (refl)))

pub returns-in_default : goal.returns-in_default
unfolding due_number
returns-in_default c =
    let p = c.in_default.ensures in
    no_less _ _ _ _ (omega arith) (no_less _ _ _ _ (omega arith) (no_less _ _ _ _ (omega arith) (unequal _ _ _ _ (λ e. omega (arith, e, be2_low c.args.s.now (c.type_inv.s 1) (c.type_inv.s 2))) refl)))

pub returns-then-two-n : goal.returns-then-two-n
unfolding due_number
returns-then-two-n c =
    let p = c.in-Some.ensures in
    no_less _ _ _ _ (omega arith) (no_less _ _ _ _ (omega arith) (no_less _ _ _ _ (omega arith) (unequal _ _ _ _ (λ e. omega arith) refl)))

pub returns-then-s-n : goal.returns-then-s-n
unfolding due_number
returns-then-s-n c =
    let p = c.in-Some.ensures in
    no_less _ _ _ _ (omega arith) (no_less _ _ _ _ (omega arith) (no_less _ _ _ _ (omega arith) (equal _ _ _ _ (omega arith) (less _ _ _ _ (omega arith) refl))))

pub returns : goal.returns
unfolding due_number
returns c =
    let p = c.in-Some.ensures in
    no_less _ _ _ _ (omega arith) (no_less _ _ _ _ (omega arith) (no_less _ _ _ _ (omega arith) (equal _ _ _ _ (omega arith) (no_less _ _ _ _ (omega arith) refl))))
