-- `last_place` meets its contract. From what a node's field has.
use mathlib.Core.Path.{refl}
use native.Mathlib.Omega.{arith}
use Rattle.graph.proofs.Tests.{equal, unequal}
use Rattle.file_checks.proofs.Checked.{size_xor, size_majority}
use Rattle.file_checks.proofs.fields.last_place.Goals as goal

pub returns-then-s-eq3 : goal.returns-then-s-eq3
returns-then-s-eq3 c = (equal _ _ _ _ c.if-s-eq3.true refl, omega (arith, c.requires.whole, size_xor c.args.s.now c.requires c.if-s-eq3.true))

pub returns : goal.returns
returns c = (unequal _ _ _ _ c.if-s-eq3.false refl, omega (arith, c.requires.whole, size_majority c.args.s.now c.requires c.if-s-eq3.false))
