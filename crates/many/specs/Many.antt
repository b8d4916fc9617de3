-- Many moves together: a list of nodes with a move each, made all or none.
use Rattle.std.specs.Prelude.{◌≡◌, ◌∷◌}
use Rattle.graph.specs.All.{ℕ, zero, suc, List, [], Perm, length, get_or, if_less, first, first_of, Graph, C, difference, tables_number, content_number, whole, Outcome, outcome, guarded}
use Rattle.moves.specs.All.{moved, node_fault, move_number}

-- 14: the index of entry j of the nodes us is not above that of the entry before
unfoldable pub rising_fault : List ℕ → ℕ → ℕ
rising_fault us zero = 0
rising_fault us (suc j) = if_less (get_or us j 0) (get_or us (suc j) 0) 0 14

-- what refuses entry j of the nodes us with the moves ms, and the first entry that is refused
unfoldable pub entry_number : Graph → List ℕ → List ℕ → List ℕ → ℕ → ℕ
entry_number g ls us ms j =
    let u = get_or us j 0 in
    first (node_fault g u) (first (rising_fault us j) (move_number g ls u (get_or ms j 0)))

unfoldable pub list_number : Graph → List ℕ → List ℕ → List ℕ → ℕ
list_number g ls us ms = first_of (length us) (entry_number g ls us ms)

-- 4: fewer moves than nodes; it comes after the 4 of tables and locks
unfoldable pub many_number : Graph → List ℕ → List ℕ → List ℕ → ℕ
many_number g ls us ms =
    first (tables_number g ls) (first (if_less (length ms) (length us) 4 0) (first (content_number g ls) (list_number g ls us ms)))

-- the call: all moves made at once, and what they save, which may be below 0
unfoldable pub many_call : Graph → List ℕ → List ℕ → List ℕ → Outcome
many_call g ls us ms =
    let h = moved g us ms in
    guarded (many_number g ls us ms) g (outcome (whole (difference (C g) (C h))) h)

-- one node with its move
pub record Entry : Type 0 where
  pub node : ℕ
  pub move : ℕ

-- the entries of a list; of more moves than nodes the rest is not read
unfoldable pub entries : List ℕ → List ℕ → List Entry
entries [] ms = []
entries (u ∷ us) [] = []
entries (u ∷ us) (k ∷ ms) = record { node = u; move = k } ∷ entries us ms

-- the graph after them, made one by one
unfoldable pub one_by_one : Graph → List Entry → Graph
one_by_one g [] = g
one_by_one g (e ∷ es) = one_by_one (moved g (e.node ∷ []) (e.move ∷ [])) es

-- document 02's M-106: an accepted call ends in the graph that its moves give one by one, in every order
abbrev pub EveryOrder : Graph → List ℕ → List ℕ → List ℕ → Type 0
EveryOrder g ls us ms = many_number g ls us ms ≡ 0 → (es : List Entry) → Perm (entries us ms) es → one_by_one g es ≡ moved g us ms
