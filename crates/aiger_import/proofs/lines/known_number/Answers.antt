-- `lines::known_number` meets its contract. The invariant: the digits passed are worth the value. From the laws on a number read digit by
-- digit.
use native.Mathlib.Omega.{arith}
use Rattle.aiger_import.proofs.Numbers.{reading_start, known_room, known_digit, known_low, known_more, known_end}
use Rattle.aiger_import.proofs.lines.known_number.Goals as goal

pub loop-k-init : goal.loop-k-init
loop-k-init c = reading_start _

pub bounds-s-k : goal.bounds-s-k
bounds-s-k c = known_room _ _ _ c.loop-k.invariant c.requires

pub overflow_mul-value : goal.overflow_mul-value
overflow_mul-value c = omega (arith, known_low _ _ _ c.loop-k.invariant c.requires c.loop-k-test.true)

pub bounds-s-k-in-loop-k : goal.bounds-s-k-in-loop-k
bounds-s-k-in-loop-k c = known_room _ _ _ c.loop-k.invariant c.requires

pub overflow_sub-value : goal.overflow_sub-value
overflow_sub-value c = omega (arith, c.loop-k-test.true)

pub overflow_cast-value : goal.overflow_cast-value
overflow_cast-value c = omega (arith, known_digit _ _ _ c.loop-k.invariant c.requires c.loop-k-test.true)

pub overflow_add-value : goal.overflow_add-value
overflow_add-value c = omega (arith, known_low _ _ _ c.loop-k.invariant c.requires c.loop-k-test.true)

pub overflow_add-k : goal.overflow_add-k
overflow_add-k c = omega (arith, known_room _ _ _ c.loop-k.invariant c.requires)

pub loop-k-smaller : goal.loop-k-smaller
loop-k-smaller c = omega (arith, known_room _ _ _ c.loop-k.invariant c.requires)

pub loop-k-preserved : goal.loop-k-preserved
loop-k-preserved c = known_more _ _ _ c.loop-k.invariant c.requires c.loop-k-test.true

pub overflow_add-result : goal.overflow_add-result
overflow_add-result c = omega (arith, known_room _ _ _ c.loop-k.invariant c.requires)

pub returns : goal.returns
returns c =
    let e = known_end _ _ _ c.loop-k.invariant c.requires (omega (arith, c.loop-k-test.false)) in
    (e.0, omega (arith, e.1))
