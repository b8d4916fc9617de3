-- `lines::digits_at` meets its contract. The invariant: the digits passed are worth the value, which is below the limit. From
-- the laws on a number read digit by digit.
use Rattle.aiger_import.proofs.Numbers.{Reading}
use Rattle.aiger_import.proofs.lines.digits_at.Given as goal

abbrev pub invariant-loop-count : goal.invariant-loop-count
invariant-loop-count l = Reading l.s l.value l.count
