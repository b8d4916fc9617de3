-- `turns_readers` meets its contract. From the rows.
use native.Mathlib.Omega.{arith}
use Rattle.resistive_call.proofs.Reading.{turned_xor, unturned_xor, turned_majority, unturned_majority}
use Rattle.resistive_call.proofs.numbers.turns_readers.Goals as goal

pub returns-then-m-eq1 : goal.returns-then-m-eq1
returns-then-m-eq1 c = (turned_xor _ _ c.if-xor.true c.if-m-eq1.true, omega arith)

pub returns-then-xor : goal.returns-then-xor
returns-then-xor c = (unturned_xor _ _ c.if-xor.true c.if-m-eq1.false, omega arith)

pub returns-then-m-eq1-2 : goal.returns-then-m-eq1-2
returns-then-m-eq1-2 c = (turned_majority _ _ c.if-xor.false c.if-m-eq1-2.true, omega arith)

pub returns : goal.returns
returns c = (unturned_majority _ _ c.if-xor.false c.if-m-eq1-2.false, omega arith)
