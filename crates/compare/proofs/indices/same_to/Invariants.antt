-- `same_to` meets its contract: the indices passed are the same. From what is said of the first that does not pass.
use mathlib.Core.Path.{◌≡◌}
use mathlib.Core.Bool.{true}
use mathlib.Core.List.{List}
use Prim.Native.Nat.{ℕ, ◌≤◌, ◌<◌}
use lib.Dec.{eqb}
use Rattle.graph.specs.Literals.{index_at}
use Rattle.compare.proofs.indices.same_to.Given as goal

abbrev pub Same : List ℕ → List ℕ → ℕ → Type 0
Same us vs j = (i : ℕ) → i < j → eqb (index_at us i) (index_at vs i) ≡ true

abbrev pub invariant-loop-j : goal.invariant-loop-j
invariant-loop-j l = (l.j ≤ l.n) × Same l.table l.second_table l.j
