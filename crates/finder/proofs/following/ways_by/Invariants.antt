-- `ways_by` meets its contract: each word that has been put bars node v. From the laws on ways.
use mathlib.Core.Path.{◌≡◌}
use Prim.Native.Nat.{ℕ, ◌+◌, ◌-◌, ◌≤◌}
use lib.ListN.{length}
use Rattle.graph.specs.Graph.{node}
use Rattle.finder.specs.Meeting.{AllBar}
use Rattle.finder.proofs.following.ways_by.Given as goal
use Rattle.finder.specs.Nodes.{nodes_in}

pub record Inv (from to n e t k k₀ : ℕ) : Type 0 where
  pub low : from ≤ e
  pub high : e ≤ to
  pub few : t ≤ n + (e - from)
  pub same : k ≡ k₀

abbrev pub invariant-loop-e : goal.invariant-loop-e
invariant-loop-e l =
    let g = nodes_in l.graph in
    Inv l.from l.to l.n l.e l.t (length l.ways) (length l.initial.ways) × AllBar g l.list l.m l.t l.ways (node g l.v)
