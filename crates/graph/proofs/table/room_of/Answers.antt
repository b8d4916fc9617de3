-- `room_of` meets its contract. From the places that both slices have.
use Rattle.std.proofs.Common.{arith}
use Rattle.graph.proofs.Literals.{held_literals}
use Rattle.graph.proofs.table.room_of.Goals as goal

pub returns-then-words-places : goal.returns-then-words-places
returns-then-words-places c = let a = c.args in omega (arith, held_literals a.table.now a.bits.now)

pub returns : goal.returns
returns c = let a = c.args in omega (arith, held_literals a.table.now a.bits.now)
