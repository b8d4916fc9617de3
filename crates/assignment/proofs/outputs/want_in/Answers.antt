-- `outputs::want_in` meets its contract. From the laws on tests.
use mathlib.Core.Path.{refl}
use Rattle.graph.proofs.Tests.{less, no_less}
use Rattle.assignment.specs.Inner.{want_in}
use Rattle.assignment.proofs.outputs.want_in.Goals as goal

pub returns-then-index-low : goal.returns-then-index-low
unfolding want_in
returns-then-index-low c = less _ _ _ _ c.if-index-low.true refl

pub returns-then-index-high : goal.returns-then-index-high
unfolding want_in
returns-then-index-high c = no_less _ _ _ _ c.if-index-low.false (less _ _ _ _ c.if-index-high.true refl)

pub returns : goal.returns
unfolding want_in
returns c = no_less _ _ _ _ c.if-index-low.false (no_less _ _ _ _ c.if-index-high.false refl)
