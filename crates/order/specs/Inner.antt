-- The move that the words of a node tell: what proofs and inner functions say, and no promise to a caller.
use Rattle.std.specs.Prelude.{◌+◌, ◌*◌, ◌%◌}
use Rattle.graph.specs.All.{ℕ, Bool, cond}

-- the move of a kind that turns words 1 and 2 a and b times
unfoldable pub tells : Bool → ℕ → ℕ → ℕ
tells x a b = cond x (2 * ((a + b) % 2) + b) a
