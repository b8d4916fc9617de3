-- What a node costs with its family, node by node: what the programme for resistive memory computes, and no promise to a caller.
-- Siblings interact through their reader, so that a cost is of a node with its move, least over the turns of what is free below it.
use Rattle.std.specs.Prelude.{◌≡◌, Bool, true, false, not, cond, ◌&&◌, List, ◌≢◌, ℕ, zero, suc, ◌+◌, ◌-◌, ◌*◌, ◌/◌, ◌%◌, ◌≤◌, ◌<◌, min, eqb, ltb, get_or}
use Rattle.graph.specs.Count.{C}
use Rattle.graph.specs.Finite.{count, if_equal, if_less}
use Rattle.graph.specs.Graph.{Graph, is_edge, is_xor, node, word}
use Rattle.moves.specs.Apply.{Choice, at, seen, apply}
use Rattle.moves.specs.Cost.{inner, pick}
use Rattle.moves.specs.Rows.{flag, moves_at}
use Rattle.moves.specs.Tree.{is_root, place, root_of}
use Rattle.choice.specs.Inner.{FirstBelow}
use Rattle.resistive.specs.Resistive.{odd_inputs}

-- how many majorities of the tree of r, a tree of g, have not just one complemented input in h
unfoldable pub missed : Graph → ℕ → Bool
missed g v = not (is_xor g v) && not (eqb (odd_inputs g v) 1)

unfoldable pub misses : Graph → ℕ → Graph → ℕ
misses g r h = count g.N (λ v. eqb (root_of g (node g v)) r && missed h v)

-- the key by them, which is the key up to a number that no choice changes
unfoldable pub miss_key : Graph → ℕ → Choice → ℕ
miss_key g r d = misses g r (apply g d) * 304097 + C (apply g d)

-- the least of the first n values
unfoldable pub lowest : ℕ → (ℕ → ℕ) → ℕ
lowest n f = f (pick f n)

-- the bit of the word at place j, turned t times; the mark has none
unfoldable pub edge_bit : Graph → ℕ → ℕ → ℕ
edge_bit g j t = cond (is_edge g j) ((word g j + t) % 2) 0

-- what a node with n complemented inputs adds to the key: z where it is in the tree, x where it is an XOR
unfoldable pub weight : Bool → Bool → ℕ → ℕ
weight z x n = n + cond (z && not x) (if_equal n 1 0 304097) 0

-- what node v adds, its words turned x, y and t times
unfoldable pub local_key : Graph → Bool → ℕ → ℕ → ℕ → ℕ → ℕ
local_key g z v x y t = weight z (is_xor g v) (edge_bit g (3 * v + 0) x + edge_bit g (3 * v + 1) y + edge_bit g (3 * v + 2) t)

-- h at the turns of what the word at place j names: where that is free (q), the least over its turns, of which it has n, each at
-- its cost c; else as it is turned by now (s)
unfoldable pub turned : Graph → (ℕ → Bool) → (ℕ → ℕ) → (ℕ → ℕ → ℕ) → (ℕ → ℕ) → ℕ → (ℕ → ℕ) → ℕ
turned g q s c n j h = cond (is_edge g j) (cond (q (word g j / 2)) (lowest (n (word g j / 2)) (λ t. c (word g j / 2) t + h t)) (h (s (word g j / 2)))) (h 0)

-- node v with its move k, and below it what is free
unfoldable pub family : Graph → Bool → (ℕ → Bool) → (ℕ → ℕ) → (ℕ → ℕ → ℕ) → (ℕ → ℕ) → ℕ → ℕ → ℕ
family g z q s c n v k =
    turned g q s c n (3 * v + 0)
    (λ x. turned g q s c n (3 * v + 1) (λ y. turned g q s c n (3 * v + 2) (λ t. local_key g z v (flag (is_xor g v) k 0 + x) (flag (is_xor g v) k 1 + y) (flag (is_xor g v) k 2 + t))))

-- the same with all of its non-roots free: what the rising sweep works out
unfoldable pub below : Graph → (ℕ → ℕ → ℕ) → (ℕ → ℕ) → ℕ → ℕ → ℕ
below g c n v k = family g true (inner g) (λ u. 0) c n v k

-- c has the cost of each turn of each non-root, up to a number o of its own: no move that turns its readers t times costs less,
-- and one costs just that
pub record KeyCosts (g : Graph) (mv : ℕ → ℕ) (c : ℕ → ℕ → ℕ) (n : ℕ → ℕ) (o : ℕ → ℕ) : Type 0 where
  pub has : (v k : ℕ) → v < g.N → is_root g (node g v) ≡ false → k < mv (node g v) → flag (is_xor g v) k 3 < n (node g v)
  pub low : (v k : ℕ) → v < g.N → is_root g (node g v) ≡ false → k < mv (node g v) → c (node g v) (flag (is_xor g v) k 3) + o v ≤ below g c n v k
  pub met : (v t : ℕ) → v < g.N → is_root g (node g v) ≡ false → t < n (node g v)
      → (k : ℕ) × (k < mv (node g v)) × (flag (is_xor g v) k 3 ≡ t) × (c (node g v) t + o v ≡ below g c n v k)

-- how many turns a node of n moves has
unfoldable pub turns_of : ℕ → ℕ
turns_of n = if_less 1 n 2 1

-- of a kind with n moves (1, or all that the kind has), the least of f over those that turn the readers t times
unfoldable pub turn_least : Bool → ℕ → (ℕ → ℕ) → ℕ → ℕ
turn_least x n f t = if_less 1 n (cond x (min (f (2 * t)) (f (2 * t + 1))) (f t)) (f 0)

-- the non-roots below node n
unfoldable pub earlier : Graph → ℕ → ℕ → Bool
earlier g n u = inner g u && ltb u (node g n)

-- how m turns the readers of u, which is nothing outside the tree of r
unfoldable pub seen_in : Graph → ℕ → Choice → ℕ → ℕ
seen_in g r m u = cond (eqb (root_of g u) r) (seen g m u) 0

-- the family of node v's reader, v turned t times: siblings below v are free, those above as m has them
unfoldable pub reader_family : Graph → (ℕ → ℕ → ℕ) → (ℕ → ℕ) → ℕ → Choice → ℕ → ℕ → ℕ
reader_family g c n r m v t = family g true (earlier g v) (at (seen_in g r m) (node g v) t) c n (place g (node g v) / 3) (m (node g (place g (node g v) / 3)))

-- m has the first least move at each node of the tree of r; elsewhere it is free
pub record KeyDecided (g : Graph) (mv : ℕ → ℕ) (c : ℕ → ℕ → ℕ) (n : ℕ → ℕ) (r : ℕ) (m : Choice) : Type 0 where
  pub top : (v : ℕ) → node g v ≡ r → FirstBelow (below g c n v) (mv r) (m r)
  pub rest : (v : ℕ) → v < g.N → root_of g (node g v) ≡ r → node g v ≢ r
      → FirstBelow (λ k. below g c n v k + reader_family g c n r m v (flag (is_xor g v) k 3)) (mv (node g v)) (m (node g v))

-- a node's numbers: what the code works with

-- what the turn t of index u costs: where it is free (q) its cost, a turn that it does not have being out of the question; else
-- only as it is turned by now (s)
unfoldable pub turn_of : (ℕ → Bool) → (ℕ → ℕ) → (ℕ → ℕ → ℕ) → (ℕ → ℕ) → ℕ → ℕ → ℕ
turn_of q s c n u t = cond (q u) (if_less t (n u) (c u t) 304100) (if_equal t (s u) 0 304100)

-- what it costs that the word at place j, with no turn of its own, ends with the bit b
unfoldable pub bit_key : Graph → (ℕ → Bool) → (ℕ → ℕ) → (ℕ → ℕ → ℕ) → (ℕ → ℕ) → ℕ → ℕ → ℕ
bit_key g q s c n j b = cond (is_edge g j) (turn_of q s c n (word g j / 2) ((word g j + b) % 2)) (if_equal b 0 0 304100)

-- z has these of three words at places 2 i + b. Under move k of a node of kind x in the tree: the third word, once m of the others
-- are complemented; the second and the third; all
unfoldable pub last_by : Bool → List ℕ → ℕ → ℕ → ℕ
last_by x z k m = min (get_or z (4 + flag x k 2) 0 + weight true x m) (get_or z (5 - flag x k 2) 0 + weight true x (m + 1))

unfoldable pub middle_by : Bool → List ℕ → ℕ → ℕ → ℕ
middle_by x z k m = min (get_or z (2 + flag x k 1) 0 + last_by x z k m) (get_or z (3 - flag x k 1) 0 + last_by x z k (m + 1))

unfoldable pub family_by : Bool → List ℕ → ℕ → ℕ
family_by x z k = min (get_or z (flag x k 0) 0 + middle_by x z k 0) (get_or z (1 - flag x k 0) 0 + middle_by x z k 1)

-- its two costs by turn in one word: which turn costs less, and by how much the other costs more
unfoldable pub packed : ℕ → ℕ → ℕ
packed a b = if_less b a (2 * (a - b) + 1) (2 * (b - a))

unfoldable pub stored : ℕ → ℕ → ℕ
stored x t = if_equal (x % 2) t 0 (x / 2)

-- the costs of all non-roots by recursion, at most f deep, less the lesser of a node's two
unfoldable pub cost_in : Graph → (ℕ → ℕ) → ℕ → ℕ → ℕ → ℕ
cost_in g mv zero u t = 0
cost_in g mv (suc f) u t =
    let x = is_xor g (u - (g.I + 1)) in
    let b = below g (cost_in g mv f) (λ w. turns_of (mv w)) (u - (g.I + 1)) in
    turn_least x (mv u) b t - min (turn_least x (mv u) b 0) (turn_least x (mv u) b 1)

-- with the locks ls
unfoldable pub key_cost : Graph → List ℕ → ℕ → ℕ → ℕ
key_cost g ls = cost_in g (moves_at g ls) g.N

unfoldable pub key_turns : Graph → List ℕ → ℕ → ℕ
key_turns g ls u = turns_of (moves_at g ls u)

-- as they are stored
unfoldable pub key_stored : Graph → List ℕ → ℕ → ℕ → ℕ
key_stored g ls u t = if_less t (key_turns g ls u) (key_cost g ls u t) 304100
