-- What a tree costs, node by node: what the tree's programme computes, and no promise to a caller. c u s is the cost of the
-- non-root u whose reader shows it the bit s; the locks ls say how many moves a node has.
use Rattle.std.specs.Prelude.{◌≡◌, ℕ, ◌+◌, ◌-◌, ◌*◌, ◌/◌, ◌%◌, ◌<◌, min, Bool, false, cond, not, ◌&&◌, ◌≢◌, List, [], ◌∷◌, nat_lt}
use Rattle.graph.specs.Count.{named, output_named}
use Rattle.graph.specs.Finite.{sum}
use Rattle.graph.specs.Graph.{Graph, is_edge, is_xor, node, word, output}
use Rattle.moves.specs.Apply.{Choice, own}
use Rattle.moves.specs.Rows.{flag, moves_at}
use Rattle.moves.specs.Tree.{is_root, root_of, place}
use Rattle.choice.specs.Choice.{least, from}
use Rattle.choice.specs.Inner.{FirstBelow}

-- a node that is no root
unfoldable pub inner : Graph → ℕ → Bool
inner g u = nat_lt g.I u && not (is_root g u)

-- what an edge that names u costs, its bit being b after its own node's move
-- (t tells the non-roots)
unfoldable pub edge_cost : (ℕ → Bool) → (ℕ → ℕ → ℕ) → ℕ → ℕ → ℕ
edge_cost t c u b = cond (t u) (c u b) b

-- word i + 1 of node v, turned f times
unfoldable pub turned_cost : Graph → (ℕ → Bool) → (ℕ → ℕ → ℕ) → ℕ → ℕ → ℕ → ℕ
turned_cost g t c v i f = cond (is_edge g (3 * v + i)) (edge_cost t c (word g (3 * v + i) / 2) ((word g (3 * v + i) + f) % 2)) 0

-- each word of node v, as it stands and turned
unfoldable pub word_costs : Graph → (ℕ → Bool) → (ℕ → ℕ → ℕ) → ℕ → List ℕ
word_costs g t c v =
    turned_cost g t c v 0 0 ∷ turned_cost g t c v 0 1 ∷ turned_cost g t c v 1 0 ∷ turned_cost g t c v 1 1 ∷ turned_cost g t c v 2 0 ∷ turned_cost g t c v 2 1 ∷ []

-- word i + 1 of node v under v's move k
unfoldable pub word_cost : Graph → (ℕ → Bool) → (ℕ → ℕ → ℕ) → ℕ → ℕ → ℕ → ℕ
word_cost g t c v k i = turned_cost g t c v i (flag (is_xor g v) k i)

unfoldable pub own_cost : Graph → (ℕ → Bool) → (ℕ → ℕ → ℕ) → ℕ → ℕ → ℕ
own_cost g t c v k = word_cost g t c v k 0 + word_cost g t c v k 1 + word_cost g t c v k 2

-- non-root v, shown s, under its move k
unfoldable pub move_cost : Graph → (ℕ → Bool) → (ℕ → ℕ → ℕ) → ℕ → ℕ → ℕ → ℕ
move_cost g t c v s k = (s + flag (is_xor g v) k 3) % 2 + own_cost g t c v k

-- the first least move
unfoldable pub pick : (ℕ → ℕ) → ℕ → ℕ
pick f n = least f 0 (from 0 n)

unfoldable pub node_cost : Graph → List ℕ → (ℕ → Bool) → (ℕ → ℕ → ℕ) → ℕ → ℕ → ℕ
node_cost g ls t c v s = move_cost g t c v s (pick (move_cost g t c v s) (moves_at g ls (node g v)))

-- how many readers of u are odd, all of them turned f times
unfoldable pub shown : Graph → ℕ → ℕ → ℕ
shown g u f = sum (3 * g.N) (λ j. cond (named g u j) ((word g j + f) % 2) 0) + sum g.O (λ j. cond (output_named g u j) ((output g j + f) % 2) 0)

-- root v under its move k
unfoldable pub root_cost : Graph → (ℕ → Bool) → (ℕ → ℕ → ℕ) → ℕ → ℕ → ℕ
root_cost g t c v k = shown g (node g v) (flag (is_xor g v) k 3) + own_cost g t c v k

-- c has the costs of all non-roots, each up to a number o of its own, which no bit changes
abbrev pub Costs : Graph → List ℕ → (ℕ → ℕ → ℕ) → (ℕ → ℕ) → Type 0
Costs g ls c o = (v s : ℕ) → v < g.N → s < 2 → is_root g (node g v) ≡ false → c (node g v) s + o v ≡ node_cost g ls (inner g) c v s

-- the bit that u's reader shows it, once d has decided the reader
unfoldable pub shows : Graph → Choice → ℕ → ℕ
shows g d u = (word g (place g u) + own g d (place g u)) % 2

-- d has the first least move at each node of the tree of r; elsewhere it is free
pub record Decided (g : Graph) (ls : List ℕ) (c : ℕ → ℕ → ℕ) (r : ℕ) (d : Choice) : Type 0 where
  pub top : (v : ℕ) → node g v ≡ r → FirstBelow (root_cost g (inner g) c v) (moves_at g ls (node g v)) (d r)
  pub rest : (v : ℕ) → v < g.N → root_of g (node g v) ≡ r → node g v ≢ r
      → FirstBelow (move_cost g (inner g) c v (shows g d (node g v))) (moves_at g ls (node g v)) (d (node g v))

-- what both bits cost
unfoldable pub base_cost : Graph → List ℕ → (ℕ → Bool) → (ℕ → ℕ → ℕ) → ℕ → ℕ
base_cost g ls t c v = min (node_cost g ls t c v 0) (node_cost g ls t c v 1)

-- what a bit costs besides: 0 or 1
unfoldable pub bit_cost : Graph → List ℕ → (ℕ → Bool) → (ℕ → ℕ → ℕ) → ℕ → ℕ → ℕ
bit_cost g ls t c v s = node_cost g ls t c v s - base_cost g ls t c v
