-- `thirds` meets its contract: of the words that have been looked at, one misses the places a, b and c wherever c is not left. From the laws on ways.
use mathlib.Core.Path.{◌≡◌}
use Prim.Native.Nat.{ℕ, ◌≤◌}
use Rattle.graph.specs.Literals.{bit}
use Rattle.finder.specs.Meeting.{Unmet}
use Rattle.finder.proofs.masks.thirds.Given as goal

abbrev pub invariant-loop-k : goal.invariant-loop-k
invariant-loop-k l = (l.k ≤ l.n) × ((c : ℕ) → bit c l.met ≡ 0 → Unmet l.allowed l.k l.ways l.a l.b c)
