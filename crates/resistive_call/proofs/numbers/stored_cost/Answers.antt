-- `stored_cost` meets its contract. From the definition.
use Rattle.resistive_call.proofs.Reading.{stored_same, stored_other}
use Rattle.resistive_call.proofs.numbers.stored_cost.Goals as goal

pub returns-then-x-t : goal.returns-then-x-t
returns-then-x-t c = stored_same _ _ c.if-x-t.true

pub returns : goal.returns
returns c = stored_other _ _ c.if-x-t.false
