-- What evaluation answers, and the result words that it leaves.
use Rattle.std.specs.Prelude.{◌++◌, Result}
use Rattle.graph.specs.All.{ℕ, List, [], length, get_or, drop, tab, if_less, if_equal, first, Graph, Assignment, output_value, bit, tables_number, content_number, Answer, accepted}
use Rattle.graph.specs.{Answer.answer_by, declared.Refusal.Refusal}
use Rattle.evaluation.specs.Word.{gather}

-- each bit place is an assignment of its own: under that of place j, input k + 1 has bit j of its word
unfoldable pub assignment_at : List ℕ → ℕ → Assignment
assignment_at words j k = bit j (get_or words k 0)

-- the word of output o: in bit place j its value under the assignment of place j
unfoldable pub output_word : Graph → List ℕ → ℕ → ℕ
output_word g words o = gather (λ j. output_value g (assignment_at words j) o) 64

-- 4: the input slice, of the length w, or the result slice, of the length r, too short
unfoldable pub slice_number : Graph → ℕ → ℕ → ℕ
slice_number g w r = if_less w g.I 4 (if_less r g.O 4 0)

-- 8: scratch, of the length s, too short
unfoldable pub scratch_number : Graph → ℕ → ℕ
scratch_number g s = if_less s g.N 8 0

-- the first fault of the graph with its locks, by the lengths of the input words, scratch and results, or 0: 3, 4, 5, 13 and 8 in
-- that order
unfoldable pub evaluate_number : Graph → List ℕ → ℕ → ℕ → ℕ → ℕ
evaluate_number g ls w s r =
    first (tables_number g ls) (first (slice_number g w r) (first (content_number g ls) (scratch_number g s)))

-- the results afterwards: the outputs' words in front where there is no fault, else what was there
unfoldable pub results_after : Graph → List ℕ → List ℕ → ℕ → List ℕ → List ℕ
results_after g ls words s results =
    if_equal (evaluate_number g ls (length words) s (length results)) 0
    (tab g.O (output_word g words) ++ drop g.O results)
    results

-- what an evaluation answers
abbrev pub evaluated_answer : {T : Type 0} → Result T Refusal → Answer
evaluated_answer = answer_by (λ _. accepted [])
