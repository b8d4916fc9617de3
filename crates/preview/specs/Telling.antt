-- What the inner functions of a preview leave, and no promise to a caller.
use Rattle.std.specs.Prelude.{◌≡◌, List, ◌≢◌, ℕ, ◌≤◌, ◌<◌, length, get_or}
use Rattle.graph.specs.Graph.{Graph, node}
use Rattle.moves.specs.Rows.{kind_moves}
use Rattle.moves.specs.Tree.{root_of}
use Rattle.state.specs.State.{field, stands, Ordered}
use Rattle.trees.specs.Deciding.{TreeDecided}

-- the first n bytes cleared
pub record Cleared (n : ℕ) (bs bs' : List ℕ) : Type 0 where
  pub same : length bs' ≡ length bs
  pub none : (j : ℕ) → j < n → get_or bs' j 0 ≡ 0
  pub kept : (j : ℕ) → n ≤ j → get_or bs' j 0 ≡ get_or bs j 0

-- the nodes of the tree of u have moves stored that their kinds have
abbrev pub MovesStored : Graph → ℕ → List ℕ → Type 0
MovesStored h u sc = (v : ℕ) → v < h.N → root_of h (node h v) ≡ u → field sc v 4 < kind_moves h (node h v)

-- the moves that stand in scratch told, for the tree of u
pub record Told (h : Graph) (u : ℕ) (sc bs bs' : List ℕ) : Type 0 where
  pub same : length bs' ≡ length bs
  pub told : (v : ℕ) → v < h.N → root_of h (node h v) ≡ u → get_or bs' v 0 ≡ field sc v 4
  pub kept : (j : ℕ) → (j < h.N → root_of h (node h j) ≢ u) → get_or bs' j 0 ≡ get_or bs j 0

-- scratch is in order and stands for g itself, and the tree of u is decided there
pub record DecidedAs (g : Graph) (ls : List ℕ) (u : ℕ) (sc : List ℕ) : Type 0 where
  pub ordered : Ordered g sc
  pub itself : stands g sc ≡ g
  pub decided : TreeDecided g ls u sc
