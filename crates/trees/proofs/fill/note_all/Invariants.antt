-- `note_all` meets its contract: the words passed are noted. From the laws on noting.
use mathlib.Core.Path.{◌≡◌}
use mathlib.Core.List.{List}
use Prim.Native.Nat.{ℕ, ◌≤◌}
use lib.ListN.{length}
use Rattle.trees.specs.Filling.{Notes}
use Rattle.trees.proofs.fill.note_all.Given as goal
use Rattle.graph.specs.Tables.{lent_table}

pub record Inv (i n f : ℕ) (l sc₀ sc : List ℕ) (w p : ℕ) : Type 0 where
  pub within : p ≤ w
  pub same : length sc ≡ length sc₀
  pub notes : Notes i n f l sc₀ sc p

abbrev pub invariant-loop-p : goal.invariant-loop-p
invariant-loop-p l = Inv l.inputs l.nodes l.f (lent_table l.table) l.initial.scratch l.scratch l.words l.p
