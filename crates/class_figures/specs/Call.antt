-- The record of a class in a lent slice, the call that settles a graph and enters it, and the figures that are read from it.
use Rattle.std.specs.Prelude.{◌+◌, ◌-◌, ◌*◌, ◌∷◌, Result}
use Rattle.graph.specs.All.{ℕ, zero, suc, min, List, [], length, get_or, tab, sum, if_less, if_equal, first, first_of, Graph, tables_number, content_number, Answer, refused, unless, Outcome}
use Rattle.graph.specs.Answer.{answer_by}
use Rattle.graph.specs.declared.Refusal.{Refusal}
use Rattle.moves.specs.All.{scratch_fault}
use Rattle.rounds.specs.All.{settle_call}
use Rattle.class_figures.specs.Figures.{row_of, figures}
use Rattle.class_figures.specs.declared.ClassFigures.{ClassFigures}

-- 86 words: how many graphs, their five totals, and the rows of the latest sixteen, five words each, the newest first
abbrev pub record_length : ℕ
record_length = 86

-- 3: a record that counts n graphs or more, or a word of it that is 2 to the 40th or above. One that is too short is looked at as far as it
-- goes
unfoldable pub figure_number : List ℕ → ℕ → ℕ
figure_number r j = if_less (get_or r j 0) 1099511627776 0 3

unfoldable pub record_number : ℕ → List ℕ → ℕ
record_number n r = first (if_less (get_or r 0 0) n 0 3) (first_of record_length (figure_number r))

-- 4: a record too short
unfoldable pub length_number : List ℕ → ℕ
length_number r = if_less (length r) record_length 4 0

-- the first fault of the call, or 0: 3 for the record before all else, then settling's 3, 4, 5, 13 and 8, a short record with the tables
unfoldable pub class_number : List ℕ → Graph → List ℕ → ℕ → ℕ
class_number r g ls s =
    first (record_number 1000 r)
    (first (tables_number g ls) (first (length_number r) (first (content_number g ls) (scratch_fault g s))))

-- the word at place j of the record r after one more row
unfoldable pub entered_at : List ℕ → List ℕ → ℕ → ℕ
entered_at row r j =
    if_equal j 0 (get_or r 0 0 + 1)
    (if_less j 6 (get_or r j 0 + get_or row (j - 1) 0)
    (if_less j 11 (get_or row (j - 6) 0)
    (if_less j record_length (get_or r (j - 5) 0) (get_or r j 0))))

unfoldable pub entered : List ℕ → List ℕ → List ℕ
entered row r = tab (length r) (entered_at row r)

-- an answer with the graph and the record as the call leaves them
pub record ClassOutcome : Type 0 where
  pub answer : Answer
  pub graph : Graph
  pub book : List ℕ

abbrev pub class_outcome : Answer → Graph → List ℕ → ClassOutcome
class_outcome a g r = record { answer = a; graph = g; book = r }

-- a refusal changes nothing
unfoldable pub guarded_class : ℕ → Graph → List ℕ → ClassOutcome → ClassOutcome
guarded_class zero g r o = o
guarded_class (suc k) g r o = class_outcome (refused (suc k)) g r

-- settling's answer and graph, and its row entered
abbrev pub settled_in : List ℕ → Graph → Outcome → ClassOutcome
settled_in r g o = class_outcome o.answer o.graph (entered (row_of g o) r)

unfoldable pub class_call : List ℕ → Graph → List ℕ → ℕ → ClassOutcome
class_call r g ls s = guarded_class (class_number r g ls s) g r (settled_in r g (settle_call g ls s))

-- the figures that a record holds: of all graphs, and of the latest sixteen, or of all while there are fewer
unfoldable pub all_of : List ℕ → Answer
all_of r = figures (get_or r 0 0) (λ k. get_or r (1 + k) 0)

unfoldable pub latest_total : List ℕ → ℕ → ℕ
latest_total r k = sum 16 (λ i. get_or r (6 + 5 * i + k) 0)

unfoldable pub latest_of : List ℕ → Answer
latest_of r = figures (min 16 (get_or r 0 0)) (latest_total r)

-- reading them: 3, then 4; those of all by 0, and by any other number those of the latest
unfoldable pub figures_number : List ℕ → ℕ
figures_number r = first (record_number 1001 r) (length_number r)

unfoldable pub figures_call : List ℕ → ℕ → Answer
figures_call r latest = unless (figures_number r) (if_equal latest 0 (all_of r) (latest_of r))

-- what the figures that are told say, and a refusal
abbrev pub told_answer : ClassFigures → Answer
told_answer f =
    record {
      number = 0;
      values = f.count ∷ f.before ∷ f.after ∷ f.rounds ∷ f.cells_before ∷ f.cells_after ∷ [];
      signed = f.fall ∷ f.total_before ∷ [];
    }

abbrev pub figures_answer : Result ClassFigures Refusal → Answer
figures_answer = answer_by told_answer
