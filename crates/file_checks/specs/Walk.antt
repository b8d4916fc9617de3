-- Where the fill pass may go: what its functions ask of the check pass, and no promise to a caller.
use Rattle.std.specs.Prelude.{ℕ, zero, suc, ◌≤◌, ◌<◌, List, ◌≡◌, length, get_or, drop}
use Rattle.graph.specs.Finite.{if_equal}
use Rattle.graph.specs.Graph.{index}
use Rattle.graph.specs.Inner.{IsWord}
use Rattle.file_checks.specs.File.{be4, node_size, third}

-- a node field stands at the front, whole
pub record NodeRoom (s : List ℕ) : Type 0 where
  pub two : 11 ≤ length s
  pub whole : node_size s ≤ length s
  pub size : node_size s ≡ if_equal (get_or s 0 0) 3 11 15

-- the same, and each of its words is a literal or the mark
pub record NodeThere (s : List ℕ) : Type 0 where
  pub room : NodeRoom s
  pub one : IsWord (be4 s 3)
  pub two : IsWord (be4 s 7)
  pub last : IsWord (third s)

-- n of them
abbrev pub Nodes : ℕ → List ℕ → Type 0
Nodes zero s = Unit {0}
Nodes (suc n) s = NodeThere s × Nodes n (drop (node_size s) s)

-- an output's field stands at the front, whole, and says a literal
pub record OutputThere (s : List ℕ) : Type 0 where
  pub whole : 7 ≤ length s
  pub low : index (be4 s 3) < 2147483647

-- n of them
abbrev pub Outputs : ℕ → List ℕ → Type 0
Outputs zero s = Unit {0}
Outputs (suc n) s = OutputThere s × Outputs n (drop 7 s)

-- a lock of an index from low on and below top stands at the front, whole
pub record LockRoom (s : List ℕ) (low top : ℕ) : Type 0 where
  pub whole : 7 ≤ length s
  pub least : low ≤ be4 s 3
  pub below : be4 s 3 < top

-- n of them
abbrev pub Locks : ℕ → List ℕ → ℕ → ℕ → Type 0
Locks zero s low top = Unit {0}
Locks (suc n) s low top = LockRoom s low top × Locks n (drop 7 s) low top
