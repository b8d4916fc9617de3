-- `lines::digits_at` meets its contract. The invariant: the digits passed are worth the value, which is below the limit. From
-- the laws on a number read digit by digit.
use mathlib.Core.Path.{◌≡◌}
use native.Mathlib.Omega.{arith}
use lib.ListN.{length}
use Rattle.aiger_import.proofs.Numbers.{reading_start, reading_end, reading_none, reading_more, reading_over}
use Rattle.aiger_import.proofs.lines.digits_at.Goals as goal

pub loop-count-init : goal.loop-count-init
loop-count-init c = reading_start _

pub returns-in_default : goal.returns-in_default
returns-in_default c = reading_none _ _ _ c.loop-count.invariant c.loop-count-test.true c.in_default.ensures

pub overflow_add-value : goal.overflow_add-value
overflow_add-value c = omega (arith, c.in-Some.ensures, c.loop-count.invariant.low)

pub returns-then-value-ge4294967296 : goal.returns-then-value-ge4294967296
returns-then-value-ge4294967296 c = reading_over _ _ _ c.loop-count.invariant c.loop-count-test.true _ c.in-Some.ensures c.if-value-ge4294967296.true

pub loop-count-preserved : goal.loop-count-preserved
loop-count-preserved c = reading_more _ _ _ c.loop-count.invariant c.loop-count-test.true _ c.in-Some.ensures c.if-value-ge4294967296.false

pub returns : goal.returns
returns c =
    let l = c.loop-count in
    let e : l.count ≡ length c.args.s.now = omega (arith, l.invariant.within) in
    rw e at (reading_end _ _ _ l.invariant c.loop-count-test.false)
