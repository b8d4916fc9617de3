-- Worked values of the definitions: document 01's graphs P1 and P7, its edges of the limits, its majority on F0, CC and AA,
-- and decimal text. By computing.
use Rattle.std.proofs.Common.{◌≡◌, ℕ, [], ◌∷◌, refl}
use Rattle.graph.specs.Finite.{if_less, if_equal, first, first_of, sum, count, tab, decimal_in, decimal}
use Rattle.graph.specs.Graph.{Graph, graph_of, mark, is_xor, is_edge}
use Rattle.graph.specs.Value.{majority, exclusive, literal_value, node_value, values, output_value}
use Rattle.graph.specs.Count.{C, adds, word_adds, node_adds, output_adds}
use Rattle.graph.specs.Literals.{bit_of, held, strays}
use Rattle.graph.specs.Admission.{room_number, tables_number, word_number, output_number, stray_number, strays_number, literal_number, lock_number, locks_number, content_number, admission_number}

-- one node of three words with one output
abbrev one : ℕ → ℕ → ℕ → ℕ → ℕ → Graph
one i x y z o = graph_of i 1 1 (x ∷ y ∷ z ∷ []) (o ∷ [])

pub c1 : C (one 3 3 5 7 9) ≡ 4
unfolding C sum node_adds output_adds word_adds adds
c1 = refl

pub c7 : C (one 2 0 3 5 6) ≡ 2
unfolding C sum node_adds output_adds word_adds adds
c7 = refl

-- the mark is odd and no edge; an odd constant is an edge like any other
pub c_mark : C (one 2 3 1 mark 6) ≡ 2
unfolding C sum node_adds output_adds word_adds adds
c_mark = refl

-- the first node may name 7 with I = 3, and not 8, whatever its lock byte is
pub names_7 : admission_number (one 3 2 4 7 8) (0 ∷ []) ≡ 0
unfolding admission_number tables_number room_number content_number literal_number word_number output_number locks_number lock_number is_edge first first_of if_less if_equal held count sum strays_number stray_number strays bit_of
names_7 = refl

pub names_8 : admission_number (one 3 2 4 8 8) (2 ∷ []) ≡ 5
unfolding admission_number tables_number room_number content_number literal_number word_number output_number locks_number lock_number is_edge first first_of if_less if_equal held count sum strays_number stray_number strays bit_of
names_8 = refl

-- 100,000 nodes are within the limits, and one more is refused before any table is looked at
pub nodes_100000 : room_number 3 100000 1 300000 1 100000 ≡ 0
unfolding room_number if_less
nodes_100000 = refl

pub nodes_100001 : admission_number (graph_of 3 100001 1 [] []) [] ≡ 3
unfolding admission_number tables_number room_number first if_less
nodes_100001 = refl

-- a lock byte above 1 is 13, and is not looked at past the nodes; too few are 4
pub locks_rows : (admission_number (one 3 2 4 7 8) (2 ∷ []) ≡ 13) × (admission_number (one 3 2 4 7 8) (1 ∷ 9 ∷ []) ≡ 0) × (admission_number (one 3 2 4 8 8) [] ≡ 4)
unfolding admission_number tables_number room_number content_number literal_number word_number output_number locks_number lock_number is_edge first first_of if_less if_equal held count sum strays_number stray_number strays bit_of
locks_rows = (refl, refl, refl)

-- bit 7 to 0 of F0, CC and AA: assignment k has the inputs k / 4, k / 2 and k, and the majority is that bit of E8
pub majority_bits : (majority 1 1 1 ∷ majority 1 1 0 ∷ majority 1 0 1 ∷ majority 1 0 0 ∷ majority 0 1 1 ∷ majority 0 1 0 ∷ majority 0 0 1 ∷ majority 0 0 0 ∷ []) ≡ (1 ∷ 1 ∷ 1 ∷ 0 ∷ 1 ∷ 0 ∷ 0 ∷ 0 ∷ [])
unfolding majority
majority_bits = refl

-- P6 with its first input 0 and its second 1
pub xor_value : output_value (one 2 3 4 mark 7) (λ k. k) 0 ≡ 1
unfolding output_value values node_value literal_value exclusive is_xor tab
xor_value = refl

pub decimals : (decimal 0 ∷ decimal 9 ∷ decimal 10 ∷ []) ≡ ((48 ∷ []) ∷ (57 ∷ []) ∷ (49 ∷ 48 ∷ []) ∷ [])
unfolding decimal decimal_in if_less
decimals = refl

pub largest : decimal 4294967295 ≡ 52 ∷ 50 ∷ 57 ∷ 52 ∷ 57 ∷ 54 ∷ 55 ∷ 50 ∷ 57 ∷ 53 ∷ []
unfolding decimal decimal_in if_less
largest = refl
