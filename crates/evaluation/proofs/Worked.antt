-- Document 01's worked evaluation, and the first fault of several, by computation of the definitions.
use mathlib.Core.Path.{◌≡◌, refl}
use mathlib.Core.List.{[], ◌∷◌}
use Prim.Native.Nat.{ℕ}
use Rattle.graph.specs.Finite.{tab, first, first_of, if_less, if_equal, count, sum}
use Rattle.graph.specs.Graph.{graph_of, is_xor, is_edge}
use Rattle.graph.specs.Literals.{bit, bit_of, held, strays}
use Rattle.graph.specs.Value.{majority, exclusive, literal_value, node_value, values, output_value}
use Rattle.graph.specs.Admission.{room_number, tables_number, word_number, output_number, literal_number, lock_number, locks_number, content_number, stray_number, strays_number}
use Rattle.evaluation.specs.Word.{gather}
use Rattle.evaluation.specs.Evaluation.{assignment_at, output_word, slice_number, scratch_number, evaluate_number, results_after}

-- 2 4 6 on F0, CC, AA gives E8; a later result word stays
e8 : results_after (graph_of 3 1 1 (2 ∷ 4 ∷ 6 ∷ []) (8 ∷ [])) (1 ∷ []) (240 ∷ 204 ∷ 170 ∷ []) 1 (0 ∷ 5 ∷ []) ≡ 232 ∷ 5 ∷ []
unfolding results_after evaluate_number tables_number room_number slice_number content_number literal_number word_number output_number locks_number lock_number scratch_number first first_of if_less if_equal is_edge output_word assignment_at gather bit output_value values literal_value node_value is_xor majority exclusive tab count sum held strays bit_of strays_number stray_number
e8 = refl

-- the first fault, by the third word of a node, its lock byte, and the lengths of the input words, scratch and results
abbrev fault : ℕ → ℕ → ℕ → ℕ → ℕ → ℕ
fault z lock w s r = evaluate_number (graph_of 3 1 1 (7 ∷ 7 ∷ z ∷ []) (9 ∷ [])) (lock ∷ []) w s r

-- with I = 3 the first node may name 7, and 8 is refused by 5: before the lock and scratch are looked at, and after the other slices
faults : fault 7 1 3 1 1 ∷ fault 8 2 3 1 1 ∷ fault 7 0 3 0 1 ∷ fault 8 0 3 0 1 ∷ fault 8 0 2 0 1 ∷ fault 8 0 3 0 0 ∷ fault 7 2 3 0 1 ∷ fault 7 2 2 0 1 ∷ [] ≡ 0 ∷ 5 ∷ 8 ∷ 5 ∷ 4 ∷ 4 ∷ 13 ∷ 4 ∷ []
unfolding evaluate_number tables_number room_number slice_number content_number literal_number word_number output_number locks_number lock_number scratch_number first first_of if_less is_edge if_equal count sum held strays bit_of strays_number stray_number
faults = refl

-- N = 100,001 is refused by 3, however short the slices are
over : evaluate_number (graph_of 3 100001 1 [] []) [] 0 0 0 ≡ 3
unfolding evaluate_number tables_number room_number first if_less
over = refl
