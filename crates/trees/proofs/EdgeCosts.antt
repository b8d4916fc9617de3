-- What an edge, a word and a node cost, as the code finds it in scratch. From the laws on tests and on a node's numbers.
use mathlib.Core.Path.{◌≡◌, refl, sym, ◌∙◌}
use mathlib.Core.Bool.{Bool, true, false, cond}
use mathlib.Core.List.{List, []}
use mathlib.Core.Logic.{◌≢◌}
use Prim.Native.Nat.{ℕ, ◌+◌, ◌-◌, ◌*◌, ◌/◌, ◌%◌, ◌≤◌, ◌<◌}
use native.Mathlib.Omega.{arith}
use borrow.Author.Tests.{eq-eqb, ne_eqb, lt-ltb, le-ltb}
use lib.Dec.{eqb}
use Rattle.graph.specs.Finite.{if_equal}
use Rattle.graph.specs.Graph.{Graph, mark, node, word, is_edge, is_xor}
use Rattle.moves.specs.Cost.{edge_cost, turned_cost, word_costs, bit_cost}
use Rattle.choice.specs.Inner.{FirstBelow}
use Rattle.moves.specs.Rows.{moves_at}
use Rattle.moves.specs.Decide.{Numbers, MovesOf, numbers_of, cost_with}
use Rattle.moves.proofs.Deciding as deciding
use Rattle.moves.proofs.Moves.{moves_of}
use Rattle.moves.proofs.Shown.{shown_both}
use Rattle.state.specs.State.{field, stands, Ordered}
use Rattle.state.proofs.Alike.{alike_edge, alike_xor, alike_moves_at, alike_readers}
use Rattle.state.proofs.Stands.{stands_alike}
use Rattle.trees.specs.Costing.{inner_at, cost_at, CostBits}
use Rattle.moves.proofs.NodeCosts.{numbers_low}
use Rattle.trees.proofs.TreeNumbers.{bits_are}

module _ (i : ℕ) (sc : List ℕ) (u b : ℕ) where
  pub edge_input : u ≤ i → {r : ℕ} → r ≡ b → r ≡ edge_cost (inner_at i sc) (cost_at i sc) u b
  unfolding edge_cost inner_at
  edge_input l s = rw (le-ltb i u l) s

  pub edge_root : (v : ℕ) → i < u → v ≡ u - (i + 1) → field sc v 3 ≡ mark → {r : ℕ} → r ≡ b → r ≡ edge_cost (inner_at i sc) (cost_at i sc) u b
  unfolding edge_cost inner_at
  edge_root v l e m s = rw (lt-ltb i u l, ← e, eq-eqb (field sc v 3) mark m) s

  pub edge_inner : (v x : ℕ) → i < u → v ≡ u - (i + 1) → field sc v 3 ≢ mark → x ≡ field sc v 4
      → {r : ℕ} → r ≡ if_equal b 0 (x % 2) (x / 2 % 2) → r ≡ edge_cost (inner_at i sc) (cost_at i sc) u b
  unfolding edge_cost inner_at cost_at
  edge_inner v x l e m q s = rw (lt-ltb i u l, ← e, ne_eqb (field sc v 3) mark m, ← q) s

pub costs_low : (i : ℕ) (sc : List ℕ) (u s : ℕ) → cost_at i sc u s ≤ 1
unfolding cost_at if_equal
costs_low i sc u s = go (eqb s 0)
  where
    go : (b : Bool) → cond b (field sc (u - (i + 1)) 4 % 2) (field sc (u - (i + 1)) 4 / 2 % 2) ≤ 1
    go true = omega arith
    go false = omega arith

-- a word of the graph that the state stands for, by the index that it names and its bit
module _ (g : Graph) (sc : List ℕ) (o : Ordered g sc) (t : ℕ → Bool) (c : ℕ → ℕ → ℕ) (v i : ℕ) (h : v < g.N) (l : i < 3) where
  abbrev j : ℕ
  j = 3 * v + i

  pub edge_fits : is_edge g j ≡ true → word g j / 2 < g.I + 1 + g.N
  edge_fits e = omega (arith, o.admitted.below j (omega arith) e)

  pub edge_is : (u b f r : ℕ) → is_edge g j ≡ true → u ≡ word g j / 2 → (b + f) % 2 ≡ (word (stands g sc) j + f) % 2 → r ≡ edge_cost t c u ((b + f) % 2) → r ≡ turned_cost (stands g sc) t c v i f
  unfolding turned_cost
  edge_is u b f r e p q s =
      let a = stands_alike g sc o.admitted in
      rw (alike_edge g (stands g sc) a j, e, ← q, a.wired j, ← p) s

  pub mark_is : (f : ℕ) → is_edge g j ≡ false → turned_cost (stands g sc) t c v i f ≡ 0
  unfolding turned_cost
  mark_is f e = rw (alike_edge g (stands g sc) (stands_alike g sc o.admitted) j, e)

pub numbers_of_lem : (h : Graph) (i : ℕ) (sc : List ℕ) (v : ℕ) (z : List ℕ) (s : ℕ) → z ≡ word_costs h (inner_at i sc) (cost_at i sc) v → s ≤ 1 → Numbers z 1 s
numbers_of_lem h i sc v z s e l = numbers_low h (inner_at i sc) (cost_at i sc) v (costs_low i sc) z 1 s e l (omega arith)

-- with the readers that scratch has
pub numbers_now : (g : Graph) (sc : List ℕ) → Ordered g sc → (v : ℕ) → v < g.N → (z : List ℕ) (a b : ℕ) → z ≡ word_costs (stands g sc) (inner_at g.I sc) (cost_at g.I sc) v
    → a ≡ field sc v 0 → b ≡ field sc v 1 → Numbers z a b
unfolding numbers_of
numbers_now g sc o v l z a b e ea eb =
    let h : Graph = stands g sc in
    let q = alike_readers g h (stands_alike g sc o.admitted) (node g v) in
    let n = deciding.numbers_low g [] v o.admitted in
    numbers_low h (inner_at g.I sc) (cost_at g.I sc) v (costs_low g.I sc) z a b e
    (omega (arith, o.reads v l, o.odd v l, shown_both h (node g v)))
    (omega (arith, o.reads v l, n.numbers.few))

pub decided_by : (x y : Bool) (n k : ℕ) (z w : List ℕ) (a b c d m : ℕ) → x ≡ y → n ≡ k → z ≡ w → a ≡ c → b ≡ d → FirstBelow (cost_with x z a b) n m → FirstBelow (cost_with y w c d) k m
decided_by x y n k z w a b c d m p u q s t f = rw (← p, ← u, ← q, ← s, ← t) f

-- the kind and the moves of a node, as they are read
pub moves_read : (g : Graph) (ls : List ℕ) (v : ℕ) (x : Bool) (n : ℕ) → x ≡ is_xor g v → n ≡ moves_at g ls (node g v) → MovesOf x n
moves_read g ls v x n e q = rw (e, q) (moves_of g ls v)

-- the stored bits of a node
pub bits_of : (g : Graph) (ls sc : List ℕ) → Ordered g sc → (v : ℕ) (x : Bool) (n : ℕ) (z : List ℕ) (r : ℕ) → z ≡ word_costs (stands g sc) (inner_at g.I sc) (cost_at g.I sc) v
    → x ≡ is_xor g v → n ≡ moves_at g ls (node g v) → CostBits x n z r
    → (r % 2 ≡ bit_cost (stands g sc) ls (inner_at g.I sc) (cost_at g.I sc) v 0) × (r / 2 % 2 ≡ bit_cost (stands g sc) ls (inner_at g.I sc) (cost_at g.I sc) v 1)
bits_of g ls sc o v x n z r e k j cb =
    let a = stands_alike g sc o.admitted in
    let q : x ≡ is_xor (stands g sc) v = k ∙ sym (alike_xor g (stands g sc) a v) in
    let u : n ≡ moves_at (stands g sc) ls (node (stands g sc) v) = j ∙ sym (alike_moves_at g (stands g sc) a ls v) in
    let c : CostBits (is_xor (stands g sc) v) (moves_at (stands g sc) ls (node (stands g sc) v)) (word_costs (stands g sc) (inner_at g.I sc) (cost_at g.I sc) v) r = rw (← q, ← u, ← e) cb in
    bits_are (stands g sc) ls (inner_at g.I sc) (cost_at g.I sc) v c.zero_least.move c.one_least.move c.zero_cost c.one_cost
    c.zero_least.least c.one_least.least c.zero_least.cost c.one_least.cost r _ _ refl refl c.bits
