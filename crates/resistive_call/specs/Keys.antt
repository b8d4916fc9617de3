-- The costs of a tree for resistive memory as scratch has them, and as the recursion gives them. What inner functions ask of each
-- other, and no promise to a caller.
use Rattle.std.specs.Prelude.{◌≡◌, Bool, true, cond, List, [], ◌∷◌, map, ◌⊎◌, ◌≢◌, ℕ, ◌+◌, ◌-◌, ◌*◌, ◌/◌, ◌%◌, ◌≤◌, ◌<◌, min, get_or}
use Rattle.graph.specs.Finite.{if_equal, if_less}
use Rattle.graph.specs.Graph.{Graph, mark, node, word, is_edge, is_xor}
use Rattle.moves.specs.Rows.{arity, flag, moves_at}
use Rattle.moves.specs.Tree.{root_of, tree}
use Rattle.moves.specs.declared.decide.Weights.{Weights}
use Rattle.resistive.specs.Family.{weight, family_by, stored, packed, key_stored}
use Rattle.resistive.specs.Resistive.{still_moves, best_still}
use Rattle.state.specs.State.{field}
use Rattle.trees.specs.Costing.{inner_at}
use Rattle.trees.specs.Deciding.{moves_in, MovesHeld}

-- How index u is turned while node v is decided, v itself s times: what is above v by the move stored for it
unfoldable pub turn_at : Graph → List ℕ → ℕ → ℕ → ℕ → ℕ
turn_at h sc v s u = if_equal u (node h v) s (flag (is_xor h (u - (h.I + 1))) (field sc (u - (h.I + 1)) 4) 3)

-- what its turn t then costs
unfoldable pub turn_cost : Graph → List ℕ → ℕ → ℕ → ℕ → ℕ → ℕ
turn_cost h sc v s u t =
    cond (inner_at h.I sc u) (if_less u (node h v) (stored (field sc (u - (h.I + 1)) 4) t) (if_equal t (turn_at h sc v s u) 0 304100)) (if_equal t 0 0 304100)

-- what it costs that the word x at place j ends with the bit b
unfoldable pub word_key : Graph → List ℕ → ℕ → ℕ → Bool → ℕ → ℕ → ℕ
word_key h sc v s e x b = cond e (turn_cost h sc v s (x / 2) ((x + b) % 2)) (if_equal b 0 0 304100)

-- each word of node w, for either bit
abbrev pub word_at : Graph → List ℕ → ℕ → ℕ → ℕ → ℕ → ℕ
word_at h sc v s j b = word_key h sc v s (is_edge h j) (word h j) b

unfoldable pub word_keys : Graph → List ℕ → ℕ → ℕ → ℕ → List ℕ
word_keys h sc v s w =
    word_at h sc v s (3 * w + 0) 0 ∷ word_at h sc v s (3 * w + 0) 1 ∷ word_at h sc v s (3 * w + 1) 0 ∷ word_at h sc v s (3 * w + 1) 1 ∷ word_at h sc v s (3 * w + 2) 0 ∷ word_at h sc v s (3 * w + 2) 1 ∷ []

-- what such numbers can be
abbrev pub Low : List ℕ → Type 0
Low z = (i : ℕ) → get_or z i 0 ≤ 304100

-- what is weighed of a node's moves, its reader's families beside
pub record LowWeights (w : Weights) : Type 0 where
  pub costs : Low w.costs
  pub still : w.still ≤ 1216400
  pub turned : w.turned ≤ 1216400

-- the third of a node's words, which ends with the bit 0 at the cost e or 1 at f, once m of the others are complemented; the second and
-- the third; all
unfoldable pub third_by : Bool → ℕ → ℕ → ℕ → ℕ
third_by x e f m = min (e + weight true x m) (f + weight true x (m + 1))

unfoldable pub second_by : Bool → ℕ → ℕ → ℕ → ℕ → ℕ → ℕ
second_by x c d e f m = min (c + third_by x e f m) (d + third_by x e f (m + 1))

unfoldable pub chain_by : Bool → ℕ → ℕ → ℕ → ℕ → ℕ → ℕ → ℕ
chain_by x a b c d e f = min (a + second_by x c d e f 0) (b + second_by x c d e f 1)

-- how many moves are weighed of a node of kind x: the first, the first two, or all
abbrev pub Weighed : Bool → ℕ → Type 0
Weighed x n = (n ≡ 1) ⊎ ((n ≡ 2) ⊎ (n ≡ arity x))

-- move m of a node with the numbers z: its family, and its reader's, which is s or, once its readers are turned, t
unfoldable pub score_by : Bool → List ℕ → ℕ → ℕ → ℕ → ℕ
score_by x z s t m = family_by x z m + if_equal (flag x m 3) 0 s t

-- the least family of a free node's moves that turn its readers t times
unfoldable pub turn_by : Bool → List ℕ → ℕ → ℕ
turn_by x z t = cond x (min (family_by x z (2 * t)) (family_by x z (2 * t + 1))) (family_by x z t)

-- what is stored for a node with n moves
unfoldable pub key_by : Bool → ℕ → List ℕ → ℕ
key_by x n z = if_equal n 1 608200 (packed (turn_by x z 0) (turn_by x z 1))

-- the family of v's reader w, v turned s times
unfoldable pub reader_by : Graph → List ℕ → ℕ → ℕ → ℕ → ℕ
reader_by h sc v w s = family_by (is_xor h w) (word_keys h sc v s w) (field sc w 4)

-- what v's reader adds to a move of v: nothing at a root
unfoldable pub beside_at : Graph → List ℕ → ℕ → ℕ → ℕ
beside_at h sc v s = if_equal (field sc v 3) mark 0 (reader_by h sc v (field sc v 3 / 3) s)

-- how many moves of v are weighed, with the locks ls: at a root those that leave its readers
unfoldable pub moves_here : Graph → List ℕ → List ℕ → ℕ → ℕ
moves_here h ls sc v = if_equal (field sc v 3) mark (min (moves_at h ls (node h v)) (still_moves (is_xor h v))) (moves_at h ls (node h v))

-- the nodes below n of the tree of r have their costs stored
abbrev pub KeyedBelow : Graph → List ℕ → List ℕ → ℕ → ℕ → Type 0
KeyedBelow h ls sc r n = (v t : ℕ) → v < n → t < 2 → root_of h (node h v) ≡ r → stored (field sc v 4) t ≡ key_stored h ls (node h v) t

-- the numbers of node w's words are small while v is decided
abbrev pub CostsLow : Graph → List ℕ → ℕ → ℕ → Type 0
CostsLow h sc v w = (s : ℕ) → Low (word_keys h sc v s w)

-- those of v's own words, and of its reader's
pub record FamiliesLow (h : Graph) (sc : List ℕ) (v : ℕ) : Type 0 where
  pub own : CostsLow h sc v v
  pub reader : field sc v 3 ≢ mark → CostsLow h sc v (field sc v 3 / 3)

-- the nodes of the tree of r in h, with the locks ls, have moves stored that they have, and these are the best for resistive memory
pub record StillDecided (h : Graph) (ls : List ℕ) (r : ℕ) (sc : List ℕ) : Type 0 where
  pub permitted : MovesHeld h ls r sc
  pub best : map (moves_in h.I sc) (tree h r) ≡ best_still h ls r
