-- M-107's worked row: one majority, exported as AIGER text, imported again and found.
use Rattle.std.specs.Prelude.{◌≡◌, ◌∷◌}
use Rattle.graph.specs.All.{List, [], ℕ, tab, graph_of, accepted, locked_outcome}
use Rattle.aiger.specs.All.{export_text, import_call}
use Rattle.promises.specs.Demand.{Locked, node_at, finding, step, left, run}

abbrev zeros : ℕ → List ℕ
zeros n = tab n (λ j. 0)

-- its import, into tables of twelve words and one
abbrev imported : Locked
imported = left (import_call (export_text (graph_of 3 1 1 (2 ∷ 4 ∷ 6 ∷ []) (8 ∷ []))) (zeros 12) (zeros 1) (zeros 4))

-- four ANDs become one majority again, with every edge complemented; and a node call turns it into the one that was exported
pub record FoundAgain : Type 0 where
  pub found :
      step imported (finding (zeros 32))
      ≡ locked_outcome (accepted (1 ∷ [])) (graph_of 3 1 1 (3 ∷ 5 ∷ 7 ∷ 0 ∷ 0 ∷ 0 ∷ 0 ∷ 0 ∷ 0 ∷ 0 ∷ 0 ∷ 0 ∷ []) (9 ∷ [])) (0 ∷ 0 ∷ 0 ∷ 0 ∷ [])
  pub turned :
      (run imported (finding (zeros 32) ∷ node_at 4 ∷ [])).graph
      ≡ graph_of 3 1 1 (2 ∷ 4 ∷ 6 ∷ 0 ∷ 0 ∷ 0 ∷ 0 ∷ 0 ∷ 0 ∷ 0 ∷ 0 ∷ 0 ∷ []) (8 ∷ [])
