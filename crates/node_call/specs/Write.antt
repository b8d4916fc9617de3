-- A move written word by word: what the inner functions compute, and no promise to a caller.
use Rattle.std.specs.Prelude.{Bool, List, ℕ, ◌+◌, ◌*◌, get_or}
use Rattle.graph.specs.Finite.{if_equal}
use Rattle.graph.specs.Graph.{index}
use Rattle.graph.specs.Turned.{turned_table, up_to, only}
use Rattle.moves.specs.Rows.{flag}

-- how often move m of node v, of kind x, turns the word at place j of the node table: its own words alone
unfoldable pub own_turns : ℕ → Bool → ℕ → ℕ → ℕ
own_turns v x m j = only (3 * v) (flag x m 0) j + only (3 * v + 1) (flag x m 1) j + only (3 * v + 2) (flag x m 2) j

-- how often a word x is turned where each that names index u is turned t times
unfoldable pub read_turns : ℕ → ℕ → ℕ → ℕ → ℕ
read_turns u t j x = if_equal (index x) u t 0

-- a table with its first n words turned so
unfoldable pub readers_after : ℕ → ℕ → ℕ → List ℕ → List ℕ
readers_after n u t l = turned_table l (up_to n (λ j. read_turns u t j (get_or l j 0)))
