-- `fill_moves` meets its contract: the bytes of the nodes passed hold the moves told. From the laws on `set`.
use mathlib.Core.Path.{◌≡◌}
use mathlib.Core.List.{List}
use Prim.Native.Nat.{ℕ, ◌+◌, ◌*◌, ◌≤◌, ◌<◌}
use lib.ListN.{length, get_or}
use Rattle.graph.specs.Graph.{is_xor}
use Rattle.many.specs.Making.{bare}
use Rattle.order.specs.Inner.{tells}
use Rattle.compare.specs.Telling.{own_turn}
use Rattle.compare.proofs.telling.fill_moves.Given as goal
use Rattle.graph.specs.Tables.{lent_table}

pub record Filled (n : ℕ) (f : ℕ → ℕ) (bs₀ bs : List ℕ) (v : ℕ) : Type 0 where
  pub within : v ≤ n
  pub same : length bs ≡ length bs₀
  pub filled : (j : ℕ) → j < v → get_or bs j 0 ≡ f j
  pub kept : (j : ℕ) → v ≤ j → get_or bs j 0 ≡ get_or bs₀ j 0

abbrev pub move : ℕ → ℕ → List ℕ → List ℕ → List ℕ → ℕ → ℕ
move i n sn l ds v = tells (is_xor (bare i n l) v) (own_turn sn l ds (3 * v)) (own_turn sn l ds (3 * v + 1))

abbrev pub invariant-loop-v : goal.invariant-loop-v
invariant-loop-v l =
    Filled l.first.nodes (move l.first.inputs l.first.nodes l.seen (lent_table l.first.node_table) l.second_bits) l.initial.moves l.moves l.v
