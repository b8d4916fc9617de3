-- `entering::enter_row` meets its contract. The invariant: the words from place j on are as they will be. From the laws on entering.
use mathlib.Core.Path.{◌≡◌}
use Prim.Native.Nat.{◌≤◌}
use lib.ListN.{length}
use Rattle.class_figures.proofs.Falling.{fallen}
use Rattle.class_figures.proofs.entering.enter_row.Given as goal

abbrev pub invariant-loop-j : goal.invariant-loop-j
invariant-loop-j l = (l.j ≤ 86) × (length l.book ≡ length l.initial.book) × (l.book ≡ fallen l.row l.initial.book l.j)
