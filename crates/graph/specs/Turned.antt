-- Which words of a table are turned, by their places: what proofs and inner functions say, and no promise to a caller.
use Rattle.std.specs.Prelude.{◌<◌}
use Rattle.graph.specs.Words.{ℕ, List, get_or}
use Rattle.graph.specs.Finite.{if_less, if_equal}
use Rattle.graph.specs.Graph.{index}
unfoldable pub use Rattle.graph.specs.Graph.{turned_table, turned_by}

abbrev pub never : ℕ → ℕ
never j = 0

-- t times at place j, and nowhere else
unfoldable pub only : ℕ → ℕ → ℕ → ℕ
only j t i = if_equal i j t 0

-- as t says below place k, and never from there on
unfoldable pub up_to : ℕ → (ℕ → ℕ) → ℕ → ℕ
up_to k t i = if_less i k (t i) 0

-- of the first n words of l, what is turned as a function of place and word says names an index below the mark's
abbrev pub Low : (ℕ → ℕ → ℕ) → ℕ → List ℕ → Type 0
Low τ n l = (j : ℕ) → j < n → 0 < τ j (get_or l j 0) → index (get_or l j 0) < 2147483647
