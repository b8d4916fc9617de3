-- The three phases of a round: what inner functions make one by one, and no promise to a caller.
use Rattle.graph.specs.All.{ℕ, List}
use Rattle.rounds.specs.Round.{Progress, each, tree_at, node_at, pairs_at}

-- over n nodes
abbrev pub phases : List ℕ → ℕ → Progress → Progress
phases ls n p = each (pairs_at ls) n (each (node_at ls) n (each (tree_at ls) n p))
