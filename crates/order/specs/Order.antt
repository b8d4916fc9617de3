-- The order of moves (document 02's M-111). A list of moves is a list of entries, each a node with its move, made one by one from the
-- front (`one_by_one`, crate many); a node may stand in it as often as one likes.
use Rattle.std.specs.Prelude.{◌↔◌, ◌≢◌, ◌+◌, ◌-◌, ◌≤◌, ◌<◌, ◌≡◌, ◌∷◌, ◌++◌}
use Rattle.graph.specs.All.{ℕ, true, false, List, [], Perm, if_equal, Graph, node, is_xor}
use Rattle.moves.specs.All.{kind_moves, moves_at, is_node}
use Rattle.moves.specs.Compose.{combined}
use Rattle.many.specs.All.{Entry, one_by_one}

abbrev pub entry : ℕ → ℕ → Entry
entry u m = record { node = u; move = m }

-- moves on g: each entry names a node, with a move that its kind has
abbrev pub Moves : Graph → List Entry → Type 0
Moves g [] = Unit {0}
Moves g (e ∷ es) = (is_node g e.node ≡ true) × (e.move < kind_moves g e.node) × Moves g es

-- those that leave the locked nodes alone, which have only move 0
abbrev pub MovesUnder : Graph → List ℕ → List Entry → Type 0
MovesUnder g ls [] = Unit {0}
MovesUnder g ls (e ∷ es) = (is_node g e.node ≡ true) × (e.move < moves_at g ls e.node) × MovesUnder g ls es

-- what the moves of index u among them combine to: one move of its kind, 0 where it has none
unfoldable pub combination : Graph → List Entry → ℕ → ℕ
combination g [] u = 0
combination g (e ∷ es) u =
    let later = combination g es u in
    if_equal e.node u (combined (is_xor g (u - (g.I + 1))) e.move later) later

-- every node's moves combine alike in both
abbrev pub CombineAlike : Graph → List Entry → List Entry → Type 0
CombineAlike g es fs = (v : ℕ) → v < g.N → combination g es (node g v) ≡ combination g fs (node g v)

-- M-111: two lists of moves on one graph end in the same graph exactly when every node's moves combine alike in both
abbrev pub OrderOfMoves : Graph → List Entry → List Entry → Type 0
OrderOfMoves g es fs = Moves g es → Moves g fs → ((one_by_one g es ≡ one_by_one g fs) ↔ CombineAlike g es fs)

-- at the node u, the moves k and l one after the other end where the move m does
abbrev pub Make : Graph → ℕ → ℕ → ℕ → ℕ → Type 0
Make g u k l m = one_by_one g (entry u k ∷ entry u l ∷ []) ≡ one_by_one g (entry u m ∷ [])

-- M-111's rules for two moves at one node; move 0 changes nothing
pub record Rules (g : Graph) : Type 0 where
  pub none : (v : ℕ) → v < g.N → one_by_one g (entry (node g v) 0 ∷ []) ≡ g
  pub majority_twice : (v : ℕ) → v < g.N → is_xor g v ≡ false → Make g (node g v) 1 1 0
  pub xor_equal : (v : ℕ) → v < g.N → is_xor g v ≡ true → (m : ℕ) → m < 4 → Make g (node g v) m m 0
  pub xor_different : (v : ℕ) → v < g.N → is_xor g v ≡ true
      → (k l m : ℕ) → 1 ≤ k → k ≤ 3 → 1 ≤ l → l ≤ 3 → 1 ≤ m → m ≤ 3 → k ≢ l → m ≢ k → m ≢ l → Make g (node g v) k l m

-- what students do: the moves in any other order end in the same graph, and made once more, in any order, they are undone
pub record Redone (g : Graph) (es fs : List Entry) : Type 0 where
  pub redone : one_by_one g fs ≡ one_by_one g es
  pub undone : one_by_one g (es ++ fs) ≡ g

abbrev pub AnyOrder : Graph → List Entry → List Entry → Type 0
AnyOrder g es fs = Moves g es → Moves g fs → Perm es fs → Redone g es fs
