-- `fill::met_third` meets its contract: the mark stays. From the laws on tests.
use mathlib.Core.Path.{refl}
use native.Mathlib.Omega.{arith}
use Rattle.graph.proofs.Tests.{equal, unequal}
use Rattle.join.proofs.fill.met_third.Goals as goal

pub returns-then-x-eq-MARK : goal.returns-then-x-eq-MARK
returns-then-x-eq-MARK c = (equal _ _ _ _ c.if-x-eq-MARK.true refl, λ n. absurd (n refl))

pub met-requires : goal.met-requires
met-requires c = c.requires c.if-x-eq-MARK.false

pub returns : goal.returns
returns c = (unequal _ _ _ _ c.if-x-eq-MARK.false c.met.ensures.0, λ n. omega (arith, c.met.ensures.1))
