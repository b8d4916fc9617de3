-- What the inner functions say, and no promise to a caller.
use Rattle.std.specs.Prelude.{List, [], ◌∷◌, ℕ, ◌+◌, ◌*◌, ◌≤◌, ◌<◌, length, get_or}
use Rattle.graph.specs.Answer.{Answer}
use Rattle.graph.specs.Finite.{sum}
use Rattle.graph.specs.Graph.{graph_of}
use Rattle.graph.specs.Inner.{AllReadable}
use Rattle.class_figures.specs.Figures.{kind_cells}
use Rattle.class_figures.specs.Call.{record_length}

-- a record with room for one more row
pub record Roomy (r : List ℕ) : Type 0 where
  pub long : record_length ≤ length r
  pub low : (j : ℕ) → j < record_length → get_or r j 0 < 1099511627776

-- a node table that can be counted
pub record Countable (n : ℕ) (ns : List ℕ) : Type 0 where
  pub few : n ≤ 100000
  pub words : AllReadable n ns

-- the cells of the first n nodes of a table
unfoldable pub node_cells : ℕ → List ℕ → ℕ
node_cells n ns = sum n (kind_cells (graph_of 0 n 0 ns []))

-- the row of an answer of settling, by the cells of the nodes
unfoldable pub answer_row : Answer → ℕ → List ℕ
answer_row a x =
    get_or a.values 1 0 ∷ get_or a.values 2 0 ∷ get_or a.values 0 0 ∷ (13 * get_or a.values 1 0 + x) ∷ (13 * get_or a.values 2 0 + x) ∷ []
