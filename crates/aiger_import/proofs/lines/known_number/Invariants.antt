-- `lines::known_number` meets its contract. The invariant: the digits passed are worth the value. From the laws on a number read digit by
-- digit.
use Prim.Native.Nat.{◌-◌}
use lib.ListN.{length}
use Rattle.aiger_import.proofs.Numbers.{Reading}
use Rattle.aiger_import.proofs.lines.known_number.Given as goal

abbrev pub invariant-loop-k : goal.invariant-loop-k
invariant-loop-k l = Reading l.s l.value l.k

abbrev pub decreases-loop-k : goal.decreases-loop-k
decreases-loop-k l = length l.s - l.k
