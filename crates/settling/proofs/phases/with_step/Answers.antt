-- `with_step` meets its contract: the sums do not wrap.
use mathlib.Core.Path.{refl}
use native.Mathlib.Omega.{arith}
use Rattle.settling.proofs.phases.with_step.Goals as goal

pub overflow_add-before : goal.overflow_add-before
overflow_add-before c = omega (arith, c.requires.low)

pub overflow_add-after : goal.overflow_add-after
overflow_add-after c = omega (arith, c.requires.low_after)

pub returns : goal.returns
returns c = record { count = refl; before = refl; after = refl }
