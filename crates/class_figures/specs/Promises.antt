-- What a class promises beside its definition: from an empty record, which only the call writes, both figures always are those worked out
-- afresh.
use Rattle.std.specs.Prelude.{◌≤◌, ◌<◌, ◌≡◌, ◌∷◌}
use Rattle.graph.specs.All.{ℕ, List, [], length, get_or, take, tab, pos, if_less, if_equal, Graph, graph_of, mark, Answer}
use Rattle.rounds.specs.All.{settle_number, settle_call}
use Rattle.class_figures.specs.Figures.{row_of, afresh}
use Rattle.class_figures.specs.Call.{record_length, class_number, class_call, all_of, latest_of, figures_number}

-- what a call is given: a graph with its locks, and so many words of scratch
pub record Handed : Type 0 where
  pub graph : Graph
  pub locks : List ℕ
  pub scratch : ℕ

-- the number by which settling refuses it, and the row of its settling
abbrev pub number_for : Handed → ℕ
number_for h = settle_number h.graph h.locks h.scratch

abbrev pub row_for : Handed → List ℕ
row_for h = row_of h.graph (settle_call h.graph h.locks h.scratch)

-- the rows of the accepted graphs, the newest first: those that settling accepts, up to the thousandth
unfoldable pub one_more : List (List ℕ) → Handed → List (List ℕ)
one_more rows h = if_less (length rows) 1000 (if_equal (number_for h) 0 (row_for h ∷ rows) rows) rows

unfoldable pub rows_after : List (List ℕ) → List Handed → List (List ℕ)
rows_after rows [] = rows
rows_after rows (h ∷ later) = rows_after (one_more rows h) later

-- the record after the calls for the same list, refused ones among them
unfoldable pub record_after : List ℕ → List Handed → List ℕ
record_after r [] = r
record_after r (h ∷ later) = record_after (class_call r h.graph h.locks h.scratch).book later

-- an empty record
pub record Empty (r : List ℕ) : Type 0 where
  pub long : record_length ≤ length r
  pub zeros : (j : ℕ) → j < record_length → get_or r j 0 ≡ 0

-- after any calls both figures are those of the rows
pub record AlwaysAfresh (r : List ℕ) (handed : List Handed) : Type 0 where
  pub all : all_of (record_after r handed) ≡ afresh (rows_after [] handed)
  pub latest : latest_of (record_after r handed) ≡ afresh (take 16 (rows_after [] handed))

-- and can be read; the next call is refused just by settling's number, until a thousand are entered, and then by 3
pub record TakesAThousand (r : List ℕ) (handed : List Handed) (h : Handed) : Type 0 where
  pub readable : figures_number (record_after r handed) ≡ 0
  pub few : length (rows_after [] handed) ≤ 1000
  pub room : length (rows_after [] handed) < 1000 → class_number (record_after r handed) h.graph h.locks h.scratch ≡ number_for h
  pub full : length (rows_after [] handed) ≡ 1000 → class_number (record_after r handed) h.graph h.locks h.scratch ≡ 3

-- a class worked out by the team: P1, P1 with too little scratch, P5 and P10. Three are accepted: C 4, 2 and 1 before and 0, 0 and 1
-- after, in 2, 2 and 1 rounds; cells 57, 38 and 13 before and 5, 12 and 13 after
abbrev p1 : ℕ → Handed
p1 s = record { graph = graph_of 3 1 1 (3 ∷ 5 ∷ 7 ∷ []) (9 ∷ []); locks = 0 ∷ []; scratch = s }

abbrev p5 : Handed
p5 = record { graph = graph_of 2 1 1 (3 ∷ 5 ∷ mark ∷ []) (6 ∷ []); locks = 0 ∷ []; scratch = 8 }

abbrev p10 : Handed
p10 = record { graph = graph_of 1 0 1 [] (3 ∷ []); locks = []; scratch = 0 }

abbrev class_after : List ℕ
class_after = record_after (tab record_length (λ j. 0)) (p1 8 ∷ p1 7 ∷ p5 ∷ p10 ∷ [])

abbrev class_figures_lem : Answer
class_figures_lem = record { number = 0; values = 3 ∷ 7 ∷ 1 ∷ 5 ∷ 108 ∷ 30 ∷ []; signed = pos 6 ∷ pos 7 ∷ [] }

pub record Worked : Type 0 where
  pub all : all_of class_after ≡ class_figures_lem
  pub latest : latest_of class_after ≡ class_figures_lem

pub record Promises : Type 0 where
  pub always_afresh : (r : List ℕ) (handed : List Handed) → Empty r → AlwaysAfresh r handed
  pub takes_a_thousand : (r : List ℕ) (handed : List Handed) (h : Handed) → Empty r → TakesAThousand r handed h
  pub worked : Worked
