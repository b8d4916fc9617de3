-- `further` meets its contract: each way so far has come to its index by its places. From the laws on ways.
use mathlib.Core.Path.{◌≡◌}
use Prim.Native.Nat.{ℕ, ◌+◌, ◌-◌, ◌*◌, ◌≤◌}
use lib.ListN.{length}
use Rattle.finder.specs.Meeting.{Come}
use Rattle.finder.proofs.following.further.Given as goal
use Rattle.finder.specs.Nodes.{nodes_in}

pub record Inv (from n j t k k₀ l l₀ : ℕ) : Type 0 where
  pub low : 3 * from ≤ j
  pub high : j ≤ 3 * n
  pub some : n ≤ t
  pub few : t ≤ n + (j - 3 * from)
  pub same : k ≡ k₀
  pub same_words : l ≡ l₀

abbrev pub invariant-loop-j : goal.invariant-loop-j
invariant-loop-j l =
    Inv l.from l.n l.j l.t (length l.heads) (length l.initial.heads) (length l.met) (length l.initial.met) × Come (nodes_in l.graph) l.v l.m l.list l.t l.heads l.met
