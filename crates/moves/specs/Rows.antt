-- Document 01's table of moves, and the moves of a node.
use Rattle.std.specs.Prelude.{◌+◌, ◌-◌, ◌∷◌}
use Rattle.graph.specs.All.{ℕ, Bool, cond, List, [], get_or, if_less, if_equal, Graph, node, is_xor}

-- the six rows: whether words 1 to 3, and every reader, are turned. A majority's two, then an XOR's four
unfoldable pub rows : List (List ℕ)
rows =
    (0 ∷ 0 ∷ 0 ∷ 0 ∷ [])
    ∷ (1 ∷ 1 ∷ 1 ∷ 1 ∷ [])
    ∷ (0 ∷ 0 ∷ 0 ∷ 0 ∷ [])
    ∷ (1 ∷ 1 ∷ 0 ∷ 0 ∷ [])
    ∷ (1 ∷ 0 ∷ 0 ∷ 1 ∷ [])
    ∷ (0 ∷ 1 ∷ 0 ∷ 1 ∷ [])
    ∷ []

-- where the rows of a kind begin (true for an XOR), and how many it has
unfoldable pub first_row : Bool → ℕ
first_row x = cond x 2 0

unfoldable pub arity : Bool → ℕ
arity x = cond x 4 2

-- whether a kind's move m turns word k + 1, or every reader (k = 3); a move that the kind lacks turns nothing
unfoldable pub flag : Bool → ℕ → ℕ → ℕ
flag x m k = if_less m (arity x) (get_or (get_or rows (first_row x + m) []) k 0) 0

-- how many moves the kind of the node with index u has
unfoldable pub kind_moves : Graph → ℕ → ℕ
kind_moves g u = arity (is_xor g (u - (g.I + 1)))

-- the byte of index u among the locks ls: 1 for a locked node; what is no node is free
unfoldable pub lock_at : Graph → List ℕ → ℕ → ℕ
lock_at g ls u = if_less g.I u (if_less u (node g g.N) (get_or ls (u - (g.I + 1)) 0) 0) 0

-- how many moves the node with index u has: move numbers are those below. A locked node has only move 0
unfoldable pub moves_at : Graph → List ℕ → ℕ → ℕ
moves_at g ls u = if_equal (lock_at g ls u) 1 1 (kind_moves g u)
