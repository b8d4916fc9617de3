-- What a comparison promises beside its definition (M-111): the moves told lead from the first graph to the second, no other moves do, and a place told is
-- the first that no moves explain together with all before it.
use Rattle.std.specs.Prelude.{◌≤◌, ◌<◌, ◌≡◌, ◌∷◌}
use Rattle.graph.specs.All.{ℕ, suc, List, [], length, get_or, Graph, node, Admitted, accepted}
use Rattle.moves.specs.All.{Choice, apply}
use Rattle.moves.specs.Compose.{Permitted}
use Rattle.compare.specs.Compare.{places, word_in, place_told, graphs_compared}

-- moves that the kinds have, by which the first k words in a row become those of h
pub record LeadsTo (g h : Graph) (m : Choice) (k : ℕ) : Type 0 where
  pub permitted : Permitted g m
  pub words : (p : ℕ) → p < k → word_in (apply g m) p ≡ word_in h p

-- by which g becomes h, whatever follows the graphs in their tables
pub record Leads (g h : Graph) (m : Choice) : Type 0 where
  pub inputs : g.I ≡ h.I
  pub nodes : g.N ≡ h.N
  pub outputs : g.O ≡ h.O
  pub all : LeadsTo g h m (places g)

-- moves lead to place p of the row, and none farther
pub record Unexplained (g h : Graph) (p : ℕ) : Type 0 where
  pub moves : Choice
  pub before : LeadsTo g h moves p
  pub none : (m : Choice) → LeadsTo g h m (suc p) → ⊥

-- of two admitted graphs and bytes for moves
pub record Tells (g h : Graph) (bs : List ℕ) : Type 0 where
  pub leads : (graphs_compared g h bs).answer ≡ accepted (0 ∷ 0 ∷ []) → (m : Choice) → ((v : ℕ) → v < g.N → m (node g v) ≡ get_or (graphs_compared g h bs).moves v 0) → Leads g h m
  pub only : (m : Choice) → Leads g h m
      → ((graphs_compared g h bs).answer ≡ accepted (0 ∷ 0 ∷ [])) × ((v : ℕ) → v < g.N → m (node g v) ≡ get_or (graphs_compared g h bs).moves v 0)
  pub unexplained : (p : ℕ) → (graphs_compared g h bs).answer ≡ place_told g 4 p → Unexplained g h p

pub record Promises : Type 0 where
  pub tells : (g h : Graph) → Admitted g → Admitted h → (bs : List ℕ) → g.N ≤ length bs → Tells g h bs
