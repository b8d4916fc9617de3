-- Trees for resistive memory worked out by hand.
use Rattle.std.specs.Prelude.{◌*◌, ◌≡◌, ◌∷◌}
use Rattle.graph.specs.All.{ℕ, List, [], ℤ, pos, negsuc, Graph, graph_of, mark, gained, outcome}
use Rattle.resistive.specs.Resistive.{singles, best_still, resistive_call}

-- a majority below another, no edge complemented: its turn gives the upper one a complemented input, and loses 4
abbrev plain : Graph
plain = graph_of 3 2 1 (2 ∷ 4 ∷ 6 ∷ 8 ∷ 2 ∷ 4 ∷ []) (10 ∷ [])

-- a majority with two complemented inputs below an XOR
abbrev below_xor : Graph
below_xor = graph_of 3 2 1 (3 ∷ 5 ∷ 6 ∷ 8 ∷ 2 ∷ mark ∷ []) (10 ∷ [])

-- two majorities below a third, which has the constant's edge too, below an XOR
abbrev with_constant : Graph
with_constant = graph_of 3 4 1 (3 ∷ 5 ∷ 7 ∷ 2 ∷ 4 ∷ 7 ∷ 8 ∷ 11 ∷ 1 ∷ 13 ∷ 3 ∷ mark ∷ []) (14 ∷ [])

-- document 01's P1 and P5, whose roots may not turn their readers
abbrev P1 : Graph
P1 = graph_of 3 1 1 (3 ∷ 5 ∷ 7 ∷ []) (9 ∷ [])

abbrev P5 : Graph
P5 = graph_of 2 1 1 (3 ∷ 5 ∷ mark ∷ []) (6 ∷ [])

-- the call at r on g with the locks ls makes the moves ms, by falling index, saves so much over the tree's own words and nothing else, and
-- leaves h; b of the tree's majorities have just one complemented input before, a after
pub record Chosen (g : Graph) (ls : List ℕ) (r : ℕ) (ms : List ℕ) (own : ℤ) (h : Graph) (b a : ℕ) : Type 0 where
  pub moves : best_still g ls r ≡ ms
  pub result : resistive_call g ls (8 * g.N) r ≡ outcome (gained [] own (pos 0)) h
  pub before : singles g r g ≡ b
  pub after : singles g r h ≡ a

pub record Worked : Type 0 where
  pub plain_free : Chosen plain (0 ∷ 0 ∷ []) 5 (0 ∷ 1 ∷ []) (negsuc 3) (graph_of 3 2 1 (3 ∷ 5 ∷ 7 ∷ 9 ∷ 2 ∷ 4 ∷ []) (10 ∷ [])) 0 1
  pub plain_locked : Chosen plain (1 ∷ 0 ∷ []) 5 (0 ∷ 0 ∷ []) (pos 0) plain 0 0
  pub xor_free : Chosen below_xor (0 ∷ 0 ∷ []) 5 (0 ∷ 1 ∷ []) (pos 0) (graph_of 3 2 1 (2 ∷ 4 ∷ 7 ∷ 9 ∷ 2 ∷ mark ∷ []) (10 ∷ [])) 0 1
  pub xor_locked : Chosen below_xor (1 ∷ 0 ∷ []) 5 (0 ∷ 0 ∷ []) (pos 0) below_xor 0 0
  pub constant_free :
      Chosen with_constant (0 ∷ 0 ∷ 0 ∷ 0 ∷ []) 7 (0 ∷ 1 ∷ 0 ∷ 0 ∷ []) (pos 2)
      (graph_of 3 4 1 (3 ∷ 5 ∷ 7 ∷ 2 ∷ 4 ∷ 7 ∷ 9 ∷ 10 ∷ 0 ∷ 12 ∷ 3 ∷ mark ∷ []) (14 ∷ [])) 1 2
  pub P1_root : Chosen P1 (0 ∷ []) 4 (0 ∷ []) (pos 0) P1 0 0
  pub P5_root : Chosen P5 (0 ∷ []) 3 (1 ∷ []) (pos 2) (graph_of 2 1 1 (2 ∷ 4 ∷ mark ∷ []) (6 ∷ [])) 0 0
