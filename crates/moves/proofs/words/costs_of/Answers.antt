-- `costs_of` meets its contract. From the kind.
use Rattle.moves.proofs.words.costs_of.Goals as goal

pub returns-then-xor : goal.returns-then-xor
returns-then-xor c = rw c.if-xor.true

pub returns : goal.returns
returns c = rw c.if-xor.false
