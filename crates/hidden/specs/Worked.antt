-- Worked values and calls: the request's own row, the order of triples, which majority is the first, and graphs with locks.
use Rattle.std.specs.Prelude.{◌≡◌, ◌∷◌, ◌+◌, ◌*◌}
use Rattle.graph.specs.All.{List, [], map, ℕ, Graph, graph_of, mark, accepted, locked_outcome}
use Rattle.hidden.specs.Truth.{triple, truth}
use Rattle.hidden.specs.Find.{near, triples}
use Rattle.hidden.specs.Call.{find_call}

-- the import of the export of I = 3: 2 4 6 → 8, an AND each
abbrev imported : Graph
imported = graph_of 3 4 1 (0 ∷ 5 ∷ 7 ∷ 0 ∷ 2 ∷ 9 ∷ 0 ∷ 4 ∷ 6 ∷ 0 ∷ 11 ∷ 13 ∷ []) (15 ∷ [])

-- the same with 8 for 6, and 8 is the XOR of 6 and the constant: over 1, 2 and 4 the last node is a majority too
abbrev twice : Graph
twice = graph_of 3 5 1 (6 ∷ 0 ∷ mark ∷ 0 ∷ 5 ∷ 9 ∷ 0 ∷ 2 ∷ 11 ∷ 0 ∷ 4 ∷ 8 ∷ 0 ∷ 13 ∷ 15 ∷ []) (17 ∷ [])

-- the same with 4, 8 and 9 for 1, 2 and 3: 4 is constant, 8 the majority of 5, 6 and 7, which stand for 1, 2 and 3, and 9 is 5 or 6. So the majority of
-- 4, 8 and 9 is one of 5, 6 and 7 too
abbrev again : Graph
again =
    graph_of 3 10 1
    (0 ∷ 0 ∷ mark ∷ 2 ∷ 0 ∷ mark ∷ 4 ∷ 0 ∷ mark ∷ 6 ∷ 0 ∷ mark ∷ 10 ∷ 12 ∷ 14 ∷ 1 ∷ 10 ∷ 12 ∷ 0 ∷ 17 ∷ 19 ∷ 0 ∷ 8 ∷ 21 ∷ 0 ∷ 16 ∷ 18 ∷ 0 ∷ 23 ∷ 25 ∷ [])
    (27 ∷ [])

-- XORs with the constant above a majority, and a majority in ANDs and ORs of the last of them
abbrev chain : Graph
chain = graph_of 3 7 0 (2 ∷ 4 ∷ 6 ∷ 8 ∷ 0 ∷ mark ∷ 10 ∷ 0 ∷ mark ∷ 12 ∷ 0 ∷ mark ∷ 1 ∷ 4 ∷ 6 ∷ 1 ∷ 2 ∷ 16 ∷ 0 ∷ 14 ∷ 18 ∷ []) []

-- the finder on g with the locks ls, and scratch enough, leaves h with the locks ks
abbrev FindsAs : (g : Graph) (ls : List ℕ) (h : Graph) (ks : List ℕ) → Type 0
FindsAs g ls h ks = find_call g ls (8 * g.N) ≡ locked_outcome (accepted (h.N ∷ [])) h ks

pub record Worked : Type 0 where
  pub imported_truth : truth imported (triple 1 2 3) 7 ≡ 23
  pub imported_near : near imported 7 ≡ 1 ∷ 2 ∷ 3 ∷ 4 ∷ 5 ∷ 6 ∷ []
  -- one majority again
  pub imported_found :
      FindsAs imported (0 ∷ 0 ∷ 0 ∷ 0 ∷ [])
      (graph_of 3 1 1 (3 ∷ 5 ∷ 7 ∷ 0 ∷ 0 ∷ 0 ∷ 0 ∷ 0 ∷ 0 ∷ 0 ∷ 0 ∷ 0 ∷ []) (9 ∷ [])) (0 ∷ 0 ∷ 0 ∷ 0 ∷ [])
  pub chain_truth : truth chain (triple 1 2 3) 10 ≡ 232
  -- the lowest index is compared first
  pub triples_five :
      map (λ t. 100 * t.one + 10 * t.two + t.three) (triples (1 ∷ 2 ∷ 3 ∷ 4 ∷ 5 ∷ []))
      ≡ 123 ∷ 124 ∷ 125 ∷ 134 ∷ 135 ∷ 145 ∷ 234 ∷ 235 ∷ 245 ∷ 345 ∷ []
  -- of two majorities the first is taken, by an index that three words lead to
  pub twice_truth : (truth twice (triple 1 2 3) 8 ≡ 23) × (truth twice (triple 1 2 4) 8 ≡ 23)
  pub first_found :
      FindsAs twice (0 ∷ 0 ∷ 0 ∷ 0 ∷ 0 ∷ [])
      (graph_of 3 1 1 (3 ∷ 5 ∷ 7 ∷ 0 ∷ 0 ∷ 0 ∷ 0 ∷ 0 ∷ 0 ∷ 0 ∷ 0 ∷ 0 ∷ 0 ∷ 0 ∷ 0 ∷ []) (9 ∷ [])) (0 ∷ 0 ∷ 0 ∷ 0 ∷ 0 ∷ [])
  -- and no other after it
  pub again_found :
      FindsAs again (0 ∷ 0 ∷ 0 ∷ 0 ∷ 0 ∷ 0 ∷ 0 ∷ 0 ∷ 1 ∷ 0 ∷ [])
      (graph_of 3 8 1
      (0 ∷ 0 ∷ mark ∷ 2 ∷ 0 ∷ mark ∷ 4 ∷ 0 ∷ mark ∷ 6 ∷ 0 ∷ mark ∷ 10 ∷ 12 ∷ 14 ∷ 1 ∷ 10 ∷ 12 ∷ 0 ∷ 16 ∷ 18 ∷ 9 ∷ 17 ∷ 19 ∷ 0 ∷ 0 ∷ 0 ∷ 0 ∷ 0 ∷ 0 ∷ [])
      (23 ∷ []))
      (0 ∷ 0 ∷ 0 ∷ 0 ∷ 0 ∷ 0 ∷ 1 ∷ 0 ∷ 0 ∷ 0 ∷ [])
  -- with locked nodes, one of them unread
  pub locked_found :
      FindsAs (graph_of 4 7 2 (2 ∷ 1 ∷ 2 ∷ 7 ∷ 8 ∷ 2 ∷ 5 ∷ 10 ∷ 1 ∷ 13 ∷ 0 ∷ mark ∷ 6 ∷ 7 ∷ 12 ∷ 5 ∷ 17 ∷ 0 ∷ 19 ∷ 0 ∷ 21 ∷ []) (20 ∷ 17 ∷ []))
      (0 ∷ 0 ∷ 1 ∷ 0 ∷ 0 ∷ 0 ∷ 1 ∷ [])
      (graph_of 4 6 2 (2 ∷ 1 ∷ 2 ∷ 5 ∷ 10 ∷ 1 ∷ 3 ∷ 6 ∷ 9 ∷ 2 ∷ 7 ∷ 8 ∷ 5 ∷ 15 ∷ 0 ∷ 17 ∷ 0 ∷ 19 ∷ 0 ∷ 0 ∷ 0 ∷ []) (18 ∷ 15 ∷ []))
      (0 ∷ 1 ∷ 0 ∷ 0 ∷ 0 ∷ 1 ∷ 0 ∷ [])
  pub unread_found :
      FindsAs (graph_of 3 7 2 (4 ∷ 6 ∷ 0 ∷ 2 ∷ 9 ∷ 4 ∷ 4 ∷ 10 ∷ 9 ∷ 5 ∷ 4 ∷ 1 ∷ 5 ∷ 0 ∷ mark ∷ 12 ∷ 1 ∷ mark ∷ 0 ∷ 12 ∷ 3 ∷ []) (18 ∷ 12 ∷ []))
      (0 ∷ 0 ∷ 0 ∷ 0 ∷ 0 ∷ 0 ∷ 1 ∷ [])
      (graph_of 3 5 2 (4 ∷ 6 ∷ 0 ∷ 2 ∷ 9 ∷ 4 ∷ 4 ∷ 10 ∷ 9 ∷ 3 ∷ 5 ∷ 8 ∷ 0 ∷ 12 ∷ 3 ∷ 0 ∷ 0 ∷ 0 ∷ 0 ∷ 0 ∷ 0 ∷ []) (14 ∷ 12 ∷ []))
      (0 ∷ 0 ∷ 0 ∷ 0 ∷ 1 ∷ 0 ∷ 0 ∷ [])
  pub most_dropped :
      FindsAs (graph_of 4 7 2 (8 ∷ 0 ∷ mark ∷ 6 ∷ 5 ∷ 11 ∷ 3 ∷ 6 ∷ 1 ∷ 9 ∷ 1 ∷ mark ∷ 4 ∷ 3 ∷ 2 ∷ 13 ∷ 13 ∷ 0 ∷ 6 ∷ 1 ∷ 3 ∷ []) (21 ∷ 13 ∷ []))
      (0 ∷ 1 ∷ 0 ∷ 0 ∷ 0 ∷ 0 ∷ 0 ∷ [])
      (graph_of 4 3 2 (8 ∷ 0 ∷ mark ∷ 6 ∷ 5 ∷ 11 ∷ 4 ∷ 7 ∷ 8 ∷ 0 ∷ 0 ∷ 0 ∷ 0 ∷ 0 ∷ 0 ∷ 0 ∷ 0 ∷ 0 ∷ 0 ∷ 0 ∷ 0 ∷ []) (15 ∷ 13 ∷ []))
      (0 ∷ 1 ∷ 0 ∷ 0 ∷ 0 ∷ 0 ∷ 0 ∷ [])
