-- `gather_all` meets its contract: the nodes passed are done. From the laws on stores.
use mathlib.Core.Path.{◌≡◌}
use mathlib.Core.List.{List}
use Prim.Native.Nat.{ℕ, ◌≤◌}
use lib.ListN.{length}
use Rattle.trees.specs.Filling.{GatheredTo}
use Rattle.trees.proofs.fill.gather_all.Given as goal
use Rattle.graph.specs.Tables.{lent_table}

pub record Inv (l : List ℕ) (n : ℕ) (sc₀ sc : List ℕ) (v : ℕ) : Type 0 where
  pub within : v ≤ n
  pub same : length sc ≡ length sc₀
  pub done : GatheredTo l n sc₀ sc v

abbrev pub invariant-loop-v : goal.invariant-loop-v
invariant-loop-v l = Inv (lent_table l.table) l.nodes l.initial.scratch l.scratch l.v
