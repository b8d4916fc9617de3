-- The choice of moves that bytes tell, index by index.
use mathlib.Core.Path.{◌≡◌}
use mathlib.Core.Bool.{false}
use mathlib.Core.List.{List}
use Prim.Native.Nat.{ℕ, ◌+◌, ◌-◌, ◌<◌}
use native.Mathlib.Omega.{arith}
use borrow.Author.Tests.{lt-ltb}
use lib.ListN.{get_or}
use Rattle.graph.specs.Graph.{Graph, node}
use Rattle.moves.specs.Call.{is_node}
use Rattle.preview.specs.Preview.{choice_in}

module _ (g : Graph) (bs : List ℕ) where
  pub choice_at : (v : ℕ) → v < g.N → choice_in g bs (node g v) ≡ get_or bs v 0
  unfolding choice_in is_node
  choice_at v l =
      let e : node g v - (g.I + 1) ≡ v = omega arith in
      rw (lt-ltb g.I (node g v) (omega arith), lt-ltb (node g v) (node g g.N) (omega arith), e)

  pub choice_none : (u : ℕ) → is_node g u ≡ false → choice_in g bs u ≡ 0
  unfolding choice_in
  choice_none u e = rw e
