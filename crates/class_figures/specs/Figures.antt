-- The figures of a class, worked out from its graphs (document 02).
use Rattle.std.specs.Prelude.{◌+◌, ◌*◌, ◌∷◌}
use Rattle.graph.specs.All.{ℕ, cond, List, [], length, get_or, sum, pos, difference, Graph, is_xor, C, Answer, Outcome}

-- cells: 13 an inverter, 12 an XOR, 5 a majority
unfoldable pub kind_cells : Graph → ℕ → ℕ
kind_cells g v = cond (is_xor g v) 12 5

unfoldable pub cells : Graph → ℕ
cells g = 13 * C g + sum g.N (kind_cells g)

-- the row of a graph g whose settling has the outcome o: C before and after, the rounds that it answers, cells before and after
unfoldable pub row_of : Graph → Outcome → List ℕ
row_of g o = C g ∷ C o.graph ∷ get_or o.answer.values 0 0 ∷ cells g ∷ cells o.graph ∷ []

-- the sum of figure k over rows
unfoldable pub total : ℕ → List (List ℕ) → ℕ
total k [] = 0
total k (row ∷ rows) = get_or row k 0 + total k rows

-- what is told of n graphs whose figure k sums to t k: n and the five sums, and as signed numbers the improvement, which is the fall of C and
-- the total before
unfoldable pub figures : ℕ → (ℕ → ℕ) → Answer
figures n t =
    record {
      number = 0;
      values = n ∷ t 0 ∷ t 1 ∷ t 2 ∷ t 3 ∷ t 4 ∷ [];
      signed = difference (t 0) (t 1) ∷ pos (t 0) ∷ [];
    }

-- worked out afresh from rows
unfoldable pub afresh : List (List ℕ) → Answer
afresh rows = figures (length rows) (λ k. total k rows)
