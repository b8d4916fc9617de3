-- `is_edge` meets its contract. Assumes nothing.
use Rattle.std.proofs.Common.{eq-eqb, ne_eqb}
use Rattle.graph.proofs.literal.is_edge.Goals as goal

pub returns-then-j-ne2 : goal.returns-then-j-ne2
returns-then-j-ne2 c = simp (ne_eqb _ _ c.if-j-ne2.true)

pub returns : goal.returns
returns c = simp (eq-eqb _ _ c.if-j-ne2.false)
