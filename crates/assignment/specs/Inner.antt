-- What the inner functions say, and no promise to a caller. A block is 64 assignments whose numbers follow one another; in
-- place j of a word stands what holds under the j-th of them.
use Rattle.std.specs.Prelude.{◌≡◌, List, [], ◌∷◌, ℕ, ◌+◌, ◌-◌, ◌*◌, ◌/◌, ◌%◌, ◌^◌, ◌≤◌, ◌<◌, length, get_or}
use Rattle.graph.specs.Finite.{if_less, if_equal, first_of}
use Rattle.graph.specs.Graph.{Graph, index, output}
use Rattle.graph.specs.Literals.{bit, held}
use Rattle.graph.specs.Value.{Assignment}
use Rattle.graph.specs.Admission.{Admitted}
use Rattle.evaluation.specs.Evaluation.{assignment_at}
use Rattle.evaluation.specs.Inner.{literal_word}
use Rattle.assignment.specs.Assignment.{misses, by_number}

-- the words of inputs 1 to 6 are the same in each block
abbrev pub masks : List ℕ
masks =
    12297829382473034410 ∷ 14757395258967641292 ∷ 17361641481138401520 ∷ 18374966859414961920 ∷ 18446462603027742720 ∷ 18446744069414584320 ∷ []

-- the word of input k + 1 in block b: from input 7 on a block has all ones or all zeros
unfoldable pub input_word : ℕ → ℕ → ℕ
input_word b k = if_less k 6 (get_or masks k 0) (b / 2 ^ (k - 6) % 2 * 18446744073709551615)

-- 1 where a bit is as wanted
unfoldable pub fits : ℕ → ℕ → ℕ
fits b want = if_equal want 2 1 (if_equal b want 1 0)

-- 1 for no fault
unfoldable pub clean : ℕ → ℕ
clean k = if_equal k 0 1 0

-- the words of the first r nodes are enough for a wanted literal x, where those of the first n were known
pub record Reached (i n x want r : ℕ) : Type 0 where
  pub grows : n ≤ r
  pub needed : (m : ℕ) → n ≤ m → index x < i + 1 + m → r ≤ m
  pub enough : (want ≡ 2 → ⊥) → index x < i + 1 + r

-- the first n outputs that are wanted name no node from the r-th on
pub record Top (g : Graph) (wanted : List ℕ) (n r : ℕ) : Type 0 where
  pub few : r ≤ g.N
  pub enough : (o : ℕ) → o < n → (get_or wanted o 0 ≡ 2 → ⊥) → index (output g o) < g.I + 1 + r

-- what is wanted of a literal that names an index from low on and below high; else either
unfoldable pub want_in : ℕ → ℕ → ℕ → ℕ → ℕ
want_in x want low high = if_less (index x) low 2 (if_less (index x) high want 2)

-- 1 where in place j output o is not as it is wanted there, ws having the words by index
unfoldable pub lacks : List ℕ → List ℕ → List ℕ → ℕ → ℕ → ℕ → ℕ → ℕ
lacks ws os wanted low high j o =
    let want = want_in (get_or os o 0) (get_or wanted o 0) low high in
    if_equal want 2 0 (if_equal (bit j (literal_word ws (get_or os o 0))) want 0 1)

-- what is asked of n outputs and the bytes wanted of them
pub record Pattern (n : ℕ) (os wanted : List ℕ) : Type 0 where
  pub there : n ≤ held os
  pub long : n ≤ length wanted
  pub small : (o : ℕ) → o < n → get_or wanted o 0 ≤ 2
  pub low : (o : ℕ) → o < n → index (get_or os o 0) < 2147483647

-- what a search asks of the graph and the pattern
pub record Searchable (g : Graph) (wanted : List ℕ) : Type 0 where
  pub admitted : Admitted g
  pub few : g.I ≤ 16
  pub long : g.O ≤ length wanted
  pub small : (o : ℕ) → o < g.O → get_or wanted o 0 ≤ 2

-- output o is missed and names an index from low on and below high
unfoldable pub misses_in : Graph → List ℕ → Assignment → ℕ → ℕ → ℕ → ℕ
misses_in g wanted a low high o = if_less (index (output g o)) low 0 (if_less (index (output g o)) high (misses g wanted a o) 0)

-- left has a 1 at the places where no output that names an index below i is missed, words being those of the inputs
abbrev pub Left : Graph → List ℕ → List ℕ → ℕ → ℕ → Type 0
Left g wanted words i left = (j : ℕ) → j < 64 → bit j left ≡ clean (first_of g.O (misses_in g wanted (assignment_at words j) 0 i))

-- the places of block b that give the pattern
abbrev pub Places : Graph → List ℕ → ℕ → ℕ → Type 0
Places g wanted b places = (j : ℕ) → j < 64 → bit j places ≡ clean (by_number g wanted (64 * b + j))

-- the first place of a word that has a 1
pub record FirstPlace (word j : ℕ) : Type 0 where
  pub low : j < 64
  pub here : bit j word ≡ 1
  pub before : (i : ℕ) → i < j → bit i word ≡ 0
