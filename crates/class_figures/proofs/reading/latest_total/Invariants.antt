-- `reading::latest_total` meets its contract: the sum over the rows passed. From what a record holds.
use mathlib.Core.Path.{◌≡◌}
use Prim.Native.Nat.{◌+◌, ◌*◌, ◌≤◌}
use lib.ListN.{get_or}
use Rattle.graph.specs.Finite.{sum}
use Rattle.class_figures.proofs.reading.latest_total.Given as goal

abbrev pub invariant-loop-i : goal.invariant-loop-i
invariant-loop-i l = (l.i ≤ 16) × (l.sum ≤ 1099511627776 * l.i) × (l.sum ≡ sum l.i (λ j. get_or l.book (6 + 5 * j + l.k) 0))
