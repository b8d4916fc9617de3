-- Nodes at which there is nothing to find. What the inner functions ask of each other, and no promise to a caller.
use Rattle.std.specs.Prelude.{◌≡◌, false, ℕ}
use Rattle.graph.specs.Graph.{Graph, node}
use Rattle.hidden.specs.Truth.{Triple, truth}
use Rattle.hidden.specs.Majority.{is_majority}
use Rattle.hidden.specs.Inner.{Rising}

-- no triple gives a majority at node v
abbrev pub NoMajority : Graph → ℕ → Type 0
NoMajority g v = (t : Triple) → Rising t (node g v) → is_majority (truth g t (node g v)) ≡ false
