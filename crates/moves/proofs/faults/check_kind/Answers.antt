-- `check_kind` meets its contract: a majority has two moves, an XOR four. From the laws on kinds.
use Rattle.std.proofs.Common.{arith}
use Rattle.moves.proofs.Known.{some_moves, no_moves, moves_of_kind}
use Rattle.moves.proofs.faults.check_kind.Goals as goal

pub returns-then-m-lt2 : goal.returns-then-m-lt2
returns-then-m-lt2 c = some_moves _ _ c.if-m-lt2.true

pub returns-then-m-ge4 : goal.returns-then-m-ge4
returns-then-m-ge4 c = no_moves _ _ c.if-m-ge4.true

pub returns-then-xor : goal.returns-then-xor
returns-then-xor c = (moves_of_kind _ _ (omega (arith, c.if-m-ge4.false)) (omega (arith, c.if-m-lt2.false))).0 c.if-xor.true

pub returns : goal.returns
returns c = (moves_of_kind _ _ (omega (arith, c.if-m-ge4.false)) (omega (arith, c.if-m-lt2.false))).1 c.if-xor.false
