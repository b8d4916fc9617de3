-- Ways down to an input, as field 0 of each node tells: twice an index that a word of the node names and from which a way leads down, 0 where
-- none is known. What the inner functions ask of each other, and no promise to a caller.
use Rattle.std.specs.Prelude.{◌≡◌, ◌≢◌, ◌⊎◌, List, ℕ, ◌+◌, ◌-◌, ◌*◌, ◌<◌}
use Rattle.graph.specs.Graph.{Graph, node}
use Rattle.state.specs.State.{field}
use Rattle.trees.specs.Filling.{Stored}
use Rattle.finder.specs.Living.{NodeNames}

-- index u is an input, or a node of which scratch tells a way; of a graph with i inputs
pub record Open (i : ℕ) (sc : List ℕ) (u : ℕ) : Type 0 where
  pub some : 0 < u
  pub way : i < u → 1 < field sc (u - (i + 1)) 0

-- r is u, which is open, or what it was
abbrev pub Chosen : ℕ → List ℕ → ℕ → ℕ → ℕ → Type 0
Chosen i sc was u r = (r ≡ was) ⊎ ((r ≡ u) × Open i sc u)

-- r is an open index that a word of node v names, or 0
pub record Leading (g : Graph) (sc : List ℕ) (v r : ℕ) : Type 0 where
  pub below : r < node g v
  pub names : r ≢ 0 → NodeNames g v r
  pub opens : r ≢ 0 → Open g.I sc r

-- which is stored, and field 6 besides, of which nothing is said
pub record Led (g : Graph) (v : ℕ) (sc sc' : List ℕ) : Type 0 where
  pub low : ℕ
  pub leading : Leading g sc v low
  pub words : ℕ
  pub between : List ℕ
  pub stored : Stored v 0 (2 * low) sc between
  pub counted : Stored v 6 words between sc'
