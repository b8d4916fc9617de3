-- `lines::number_at` meets its contract: each test that it makes is one of `ended_number`. From the laws on numbers read.
use mathlib.Core.Logic.{⊎_elim, ◌≢◌}
use mathlib.Core.Path.{◌≡◌}
use Prim.Native.Nat.{◌≤◌}
use native.Mathlib.Omega.{arith}
use lib.ListN.{get_or}
use Rattle.aiger_import.proofs.Numbers.{too_large, no_digits, no_end, other_end, leading, whole}
use Rattle.aiger_import.proofs.lines.number_at.Goals as goal

pub returns-then-value-ge4294967296 : goal.returns-then-value-ge4294967296
returns-then-value-ge4294967296 c = too_large _ _ _ _ c.digits_at-d.ensures c.if-value-ge4294967296.true

pub returns-then-count-eq0 : goal.returns-then-count-eq0
returns-then-count-eq0 c = no_digits _ _ _ _ c.digits_at-d.ensures (omega arith) c.if-count-eq0.true

pub returns-then-s-count : goal.returns-then-s-count
returns-then-s-count c = no_end _ _ _ _ c.digits_at-d.ensures (omega arith) c.if-count-eq0.false c.requires c.if-s-count.true

pub returns-then-s-count-2 : goal.returns-then-s-count-2
returns-then-s-count-2 c = other_end _ _ _ _ c.digits_at-d.ensures (omega arith) c.if-count-eq0.false c.if-s-count-2.true

pub returns-then-count-gt1 : goal.returns-then-count-gt1
returns-then-count-gt1 c = leading _ _ _ _ c.digits_at-d.ensures (omega arith) c.if-count-eq0.false c.if-s-count-2.false c.if-s-eq48.true c.if-count-gt1.true

pub returns : goal.returns
returns c =
    let d = c.digits_at-d in
    whole _ _ _ _ d.ensures (omega arith) c.if-count-eq0.false c.if-s-count-2.false
    (λ e. ⊎_elim (λ (h : (get_or c.args.s.now 0 0 ≡ 48) × (d.result.count ≤ 1)). h.1) (λ (n : get_or c.args.s.now 0 0 ≢ 48). absurd (n e)) c.else-s-eq48.either) (omega arith)
