-- `lines::read_line` meets its contract. The invariant: so many of the line's numbers are read. From the laws on lines read.
use mathlib.Core.Path.{◌≡◌}
use lib.ListN.{length}
use Rattle.aiger_import.proofs.Walked.{Walked}
use Rattle.aiger_import.proofs.lines.read_line.Given as goal

abbrev pub invariant-loop-j : goal.invariant-loop-j
invariant-loop-j l = Walked l.k l.s l.numbers l.at l.j × (length l.numbers ≡ length l.initial.numbers)
