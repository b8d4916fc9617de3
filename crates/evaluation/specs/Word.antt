-- A word of so many bits, from its bits.
use Rattle.std.specs.Prelude.{◌+◌, ◌*◌, ◌^◌}
use Rattle.graph.specs.All.{ℕ, zero, suc}

-- the word of k bits whose bit j is f j
unfoldable pub gather : (ℕ → ℕ) → ℕ → ℕ
gather f zero = 0
gather f (suc k) = gather f k + f k * 2 ^ k
