-- Lists of moves worked out by hand, on a graph with an XOR and a majority that reads it twice.
use Rattle.std.specs.Prelude.{◌≡◌, ◌∷◌}
use Rattle.graph.specs.All.{List, [], Graph, graph_of, mark}
use Rattle.many.specs.All.{Entry, one_by_one}
use Rattle.order.specs.Order.{entry, combination}

-- I=2: node 3 is XOR 2 5, node 4 is 6 6 4 → 8, 7
abbrev pub before : Graph
before = graph_of 2 2 2 (2 ∷ 5 ∷ mark ∷ 6 ∷ 6 ∷ 4 ∷ []) (8 ∷ 7 ∷ [])

-- the XOR's moves 1 and 2 are its move 3; the majority's move comes between, and its words that name the XOR turn twice
abbrev pub one : List Entry
one = entry 3 1 ∷ entry 4 1 ∷ entry 3 2 ∷ []

abbrev pub other : List Entry
other = entry 4 1 ∷ entry 3 3 ∷ entry 4 1 ∷ entry 4 1 ∷ []

abbrev pub after : Graph
after = graph_of 2 2 2 (2 ∷ 4 ∷ mark ∷ 6 ∷ 6 ∷ 5 ∷ []) (9 ∷ 6 ∷ [])

pub record Worked : Type 0 where
  pub first : one_by_one before one ≡ after
  pub second : one_by_one before other ≡ after
  pub combined_first : combination before one 3 ≡ 3
  pub combined_second : combination before other 3 ≡ 3
  pub majority_first : combination before one 4 ≡ 1
  pub majority_second : combination before other 4 ≡ 1
