-- What a join promises beside its definition (M-113).
use Rattle.std.specs.Prelude.{◌+◌, ◌<◌, ◌≡◌}
use Rattle.graph.specs.All.{ℕ, List, Graph, Assignment, output_value, Admitted, LockBytes, LockedOutcome}
use Rattle.join.specs.Join.{join_call}
use Rattle.join.specs.Worked.{Inverters, Adder, Refusals}

-- an accepted join of g and h has left g's inputs, both lists of nodes and h's outputs, and is admitted with its locks; the value of every output
-- is the second's on the first's outputs, under every assignment
pub record Joins (g h : Graph) (o : LockedOutcome) : Type 0 where
  pub meet : g.O ≡ h.I
  pub inputs : o.graph.I ≡ g.I
  pub nodes : o.graph.N ≡ g.N + h.N
  pub outputs : o.graph.O ≡ h.O
  pub admitted : Admitted o.graph
  pub locks : LockBytes o.graph.N o.locks
  pub values : (a : Assignment) (j : ℕ) → j < h.O → output_value o.graph a j ≡ output_value h (output_value g a) j

abbrev pub JoinedValues : Graph → List ℕ → Graph → (ks ns os rs : List ℕ) → Type 0
JoinedValues g ls h ks ns os rs = (join_call g ls h ks ns os rs).answer.number ≡ 0 → Joins g h (join_call g ls h ks ns os rs)

pub record Promises : Type 0 where
  pub joined_values : (g : Graph) (ls : List ℕ) (h : Graph) (ks ns os rs : List ℕ) → JoinedValues g ls h ks ns os rs
  -- what is worked out by hand
  pub inverters : Inverters
  pub adder : Adder
  pub refusals : Refusals
