-- What the calls that rewire a graph keep.
use Rattle.std.specs.Prelude.{◌≡◌, ◌∷◌, ◌≤◌, ◌<◌}
use Rattle.graph.specs.All.{false, List, [], ℕ, Graph, node, readers, Assignment, value, output_value, Admitted, LockBytes, LockedOutcome, accepted}
use Rattle.hidden.specs.Find.{is_locked}

-- either call: the inputs, the outputs and their values under every assignment, no more nodes, and that the graph is admitted
pub record Keeps (g h : Graph) : Type 0 where
  pub inputs : h.I ≡ g.I
  pub outputs : h.O ≡ g.O
  pub fewer : h.N ≤ g.N
  pub admitted : Admitted h
  pub same : (a : Assignment) (j : ℕ) → j < g.O → output_value h a j ≡ output_value g a j

-- the majority call besides: the number of nodes, and every index's value
pub record Same (g h : Graph) : Type 0 where
  pub keeps : Keeps g h
  pub nodes : h.N ≡ g.N
  pub all : (a : Assignment) (i : ℕ) → i < node g g.N → value h a i ≡ value g a i

-- no free node is without a reader
abbrev pub AllRead : Graph → List ℕ → Type 0
AllRead g ls = (v : ℕ) → v < g.N → is_locked ls v ≡ false → 0 < readers g (node g v)

-- and the finder, with the outcome r: it returns the new number of nodes, the locks are admitted, and no free node is left unread
pub record Finds (g : Graph) (r : LockedOutcome) : Type 0 where
  pub keeps : Keeps g r.graph
  pub returned : r.answer ≡ accepted (r.graph.N ∷ [])
  pub locked : LockBytes r.graph.N r.locks
  pub read : AllRead r.graph r.locks
