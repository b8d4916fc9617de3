-- `check_strays` meets its contract. From the law of the bits past the last literal.
use Rattle.std.proofs.Common.{refl, arith}
use Rattle.graph.specs.Admission.{stray_number}
use Rattle.graph.proofs.Counted.{strays_whole}
use Rattle.graph.proofs.Tests.{less, no_less}
use Rattle.graph.proofs.faults.check_strays.Goals as goal

pub returns-then-n-eq0 : goal.returns-then-n-eq0
unfolding stray_number
returns-then-n-eq0 c us = let a = c.args in no_less _ _ _ _ (omega (arith, strays_whole us a.bits.now a.n c.if-n-eq0.true)) refl

pub ones_from-requires : goal.ones_from-requires
ones_from-requires c = (omega (arith, c.requires), c.if-n-eq0.false)

pub returns-then-ones_from-ne0 : goal.returns-then-ones_from-ne0
unfolding stray_number
returns-then-ones_from-ne0 c us = less _ _ _ _ (omega (arith, c.ones_from.ensures us, c.if-ones_from-ne0.true)) refl

pub returns : goal.returns
unfolding stray_number
returns c us = no_less _ _ _ _ (omega (arith, c.ones_from.ensures us, c.if-ones_from-ne0.false)) refl
