-- `link_all` meets its contract: the nodes passed are linked. From the laws on links.
use mathlib.Core.Path.{◌≡◌}
use mathlib.Core.List.{List}
use Prim.Native.Nat.{ℕ, ◌≤◌}
use lib.ListN.{length}
use Rattle.trees.specs.Linking.{Bounded, LowKept, LinkingAny}
use Rattle.trees.proofs.links.link_all.Given as goal

pub record Inv (n : ℕ) (sc₀ sc : List ℕ) (v : ℕ) : Type 0 where
  pub within : v ≤ n
  pub same : length sc ≡ length sc₀
  pub kept : LowKept sc₀ sc
  pub bounded : Bounded n sc v
  pub linking : LinkingAny n sc₀ sc v

abbrev pub invariant-loop-v : goal.invariant-loop-v
invariant-loop-v l = Inv l.nodes l.initial.scratch l.scratch l.v
