-- `tell_outputs` meets its contract: the outputs passed are turned as they are to be. From what is said of the first that does not pass.
use mathlib.Core.Path.{◌≡◌}
use mathlib.Core.Bool.{true}
use mathlib.Core.List.{List}
use Prim.Native.Nat.{ℕ, ◌≤◌, ◌<◌}
use lib.Dec.{eqb}
use Rattle.compare.specs.Telling.{own_turn}
use Rattle.compare.proofs.telling.tell_outputs.Given as goal
use Rattle.graph.specs.Tables.{lent_table}

abbrev pub None : List ℕ → List ℕ → List ℕ → ℕ → Type 0
None sn l es j = (i : ℕ) → i < j → eqb (own_turn sn l es i) 0 ≡ true

abbrev pub invariant-loop-j : goal.invariant-loop-j
invariant-loop-j l = (l.j ≤ l.first.outputs) × None l.seen (lent_table l.first.output_table) l.second_bits l.j
