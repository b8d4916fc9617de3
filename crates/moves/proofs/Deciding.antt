-- A node's rows and its costs as numbers: bounds, and how the words' costs are met. From the laws on tests.
use Rattle.std.proofs.Common.{◌≡◌, ℕ, zero, suc, ◌+◌, ◌-◌, ◌*◌, ◌%◌, ◌<◌, ◌≤◌, Bool, true, false, cond, eqb, List, [], ◌∷◌, get_or, sym, refl, arith, lt-ltb}
use borrow.Author.Tests.{eqb-false}
use Rattle.graph.specs.Admission.{Admitted}
use Rattle.graph.specs.Count.{adds, named, output_named, node_readers, readers}
use Rattle.graph.specs.Finite.{if_less, if_equal, count}
use Rattle.graph.specs.Graph.{Graph, mark, node, word, index, turn, is_edge, is_xor}
use Rattle.graph.specs.Inner.{IsWord}
use Rattle.moves.specs.Rows.{rows, first_row, arity, flag}
use Rattle.moves.specs.Decide.{cost_by, cost_with, Weighed, Numbers, LeastBelow, Answered, FirstPair, word_after, bits_add, own_costs, swapped, given, others, cost_of, cost_given, pair_cost, numbers_of, naming, Counted}
use Rattle.moves.specs.declared.decide.NodeNumbers.{NodeNumbers}
use Rattle.choice.specs.Inner.{FirstBelow}
use Rattle.graph.proofs.Adds.{adds_le}
use Rattle.graph.proofs.Edge.{edge_early, third_majority, third_xor}
use Rattle.graph.proofs.Finite.{sum_le}
use Rattle.graph.proofs.Tests.{equal, unequal}
use Rattle.moves.proofs.Shown.{shown_both}
use Rattle.moves.proofs.Flags.{by_flag}
use Rattle.moves.proofs.Moves.{moves_of}
use Rattle.moves.proofs.Tally.{if_bit}

-- the table has the flags
pub row_is : (x : Bool) (m k : ℕ) → m < arity x → get_or (get_or rows (first_row x + m) []) k 0 ≡ flag x m k
unfolding flag if_less
row_is x m k h = rw (lt-ltb m (arity x) h)

pub row_low : (x : Bool) (m : ℕ) → m < arity x → first_row x + m < 6
unfolding first_row arity
row_low true m h = omega arith
row_low false m h = omega arith

pub arity_low : (x : Bool) → (2 ≤ arity x) × (arity x ≤ 4)
unfolding arity
arity_low true = omega arith
arity_low false = omega arith

-- one of two numbers
pub either_le : (f s t : ℕ) → if_equal f 0 s t ≤ s + t
unfolding if_equal
either_le f s t = go (eqb f 0)
  where
    go : (b : Bool) → cond b s t ≤ s + t
    go true = omega arith
    go false = omega arith

pub by_le : (x : Bool) (z : List ℕ) (s t m : ℕ) → ((i : ℕ) → get_or z i 0 ≤ 1) → cost_by x z s t m ≤ 3 + (s + t)
unfolding cost_by
by_le x z s t m n = omega (arith, n (flag x m 0), n (2 + flag x m 1), n (4 + flag x m 2), either_le (flag x m 3) s t)

pub cost_le : (x : Bool) (z : List ℕ) (r d m : ℕ) → Numbers z r d → cost_with x z r d m ≤ 3 + r
unfolding cost_with
cost_le x z r d m n = omega (arith, n.some, by_le x z d (r - d) m n.bits)

pub cost_is : (x : Bool) (z : List ℕ) (s t m a b c e f : ℕ) → a ≡ flag x m 0 → b ≡ flag x m 1 → c ≡ flag x m 2 → e ≡ flag x m 3 → f ≡ if_equal e 0 s t
    → get_or z a 0 + get_or z (2 + b) 0 + get_or z (4 + c) 0 + f ≡ cost_by x z s t m
unfolding cost_by
cost_is x z s t m a b c e f p q o n u = rw (u, p, q, o, n)

-- the numbers of a node, weighed
pub numbers_weigh : (z : List ℕ) (r d : ℕ) → Numbers z r d → Weighed z d (r - d)
numbers_weigh z r d n = record { bits = n.bits; still = omega (arith, n.some, n.few); turned = omega (arith, n.few) }

-- the words
pub first_place : (l : List ℕ) (v : ℕ) → get_or l (3 * v) 0 ≡ get_or l (3 * v + 0) 0
first_place l v = let e : 3 * v + 0 ≡ 3 * v = omega arith in rw e

pub after_le : (g : Graph) (v i t : ℕ) → word_after g v i t ≤ 1
unfolding word_after
after_le g v i t = go (is_edge g (3 * v + i))
  where
    go : (b : Bool) → cond b (adds (turn t (word g (3 * v + i)))) 0 ≤ 1
    go true = adds_le _
    go false = omega arith

pub own_le : (g : Graph) (v i : ℕ) → get_or (own_costs g v) i 0 ≤ 1
unfolding own_costs
own_le g v zero = after_le g v 0 0
own_le g v (suc zero) = after_le g v 0 1
own_le g v (suc (suc zero)) = after_le g v 1 0
own_le g v (suc (suc (suc zero))) = after_le g v 1 1
own_le g v (suc (suc (suc (suc zero)))) = after_le g v 2 0
own_le g v (suc (suc (suc (suc (suc zero))))) = after_le g v 2 1
own_le g v (suc (suc (suc (suc (suc (suc i)))))) = omega arith

pub numbers_low : (g : Graph) (ls : List ℕ) (v : ℕ) → Admitted g → Counted (numbers_of g ls v)
unfolding numbers_of readers node_readers count
numbers_low g ls v adm =
    record {
      numbers =
          record {
            bits = own_le g v;
            some = omega (arith, shown_both g (node g v));
            few =
                omega (
                  arith,
                  adm.few_nodes,
                  adm.few_outputs,
                  sum_le (λ j. cond (named g (node g v) j) 1 0) (λ j. one_or_none (named g (node g v) j)) (3 * g.N),
                  sum_le (λ j. cond (output_named g (node g v) j) 1 0) (λ j. one_or_none (output_named g (node g v) j)) g.O,
                );
          };
      has = moves_of g ls v;
    }
  where
    one_or_none : (b : Bool) → cond b 1 0 ≤ 1
    one_or_none true = omega arith
    one_or_none false = omega arith

pub naming_le : (g : Graph) (v u i : ℕ) → get_or (naming g v u) i 0 ≤ 1
unfolding naming
naming_le g v u zero = if_bit _ _ 1 (omega arith)
naming_le g v u (suc zero) = if_bit _ _ 1 (omega arith)
naming_le g v u (suc (suc zero)) = if_bit _ _ 1 (omega arith)
naming_le g v u (suc (suc (suc i))) = omega arith

-- the third word of a majority
pub third_low : (g : Graph) (v : ℕ) → IsWord (word g (3 * v + 2)) → is_xor g v ≡ false → index (word g (3 * v + 2)) < 2147483647
unfolding is_xor
third_low g v f e = f (eqb-false (word g (3 * v + 2)) mark e)

-- what the words of node v add, by their bits and the kind
module _ (g : Graph) (v : ℕ) where
  turned_bit : (t x b : ℕ) → b ≡ x % 2 → t ≤ 1 → adds (turn t x) ≡ if_equal t 0 b (1 - b)
  unfolding adds turn
  turned_bit zero x b e h = equal zero 0 b (1 - b) refl (omega arith)
  turned_bit (suc zero) x b e h = unequal (suc zero) 0 b (1 - b) (λ z. omega arith) (omega arith)
  turned_bit (suc (suc t)) x b e h = absurd (omega arith)

  edge_after : (i t b : ℕ) → is_edge g (3 * v + i) ≡ true → b ≡ word g (3 * v + i) % 2 → t ≤ 1 → word_after g v i t ≡ if_equal t 0 b (1 - b)
  unfolding word_after
  edge_after i t b e q h = rw e (turned_bit t (word g (3 * v + i)) b q h)

  edge_both : (i b : ℕ) → is_edge g (3 * v + i) ≡ true → b ≡ word g (3 * v + i) % 2 → (word_after g v i 0 ≡ b) × (word_after g v i 1 ≡ 1 - b)
  unfolding if_equal
  edge_both i b e q = (edge_after i 0 b e q (omega arith), edge_after i 1 b e q (omega arith))

  mark_after : (t : ℕ) → is_xor g v ≡ true → word_after g v 2 t ≡ 0
  unfolding word_after
  mark_after t x = rw (third_xor g v x)

  third_both : (b : ℕ) (k : Bool) → k ≡ is_xor g v → (is_xor g v ≡ false → b ≡ word g (3 * v + 2) % 2) → (word_after g v 2 0 ≡ cond k 0 b) × (word_after g v 2 1 ≡ cond k 0 (1 - b))
  third_both b true x f = (mark_after 0 (sym x), mark_after 1 (sym x))
  third_both b false x f = edge_both 2 b (third_majority g v (sym x)) (f (sym x))

  pub own_costs_are : (x y z : ℕ) (k : Bool) → x ≡ word g (3 * v + 0) % 2 → y ≡ word g (3 * v + 1) % 2 → k ≡ is_xor g v → (is_xor g v ≡ false → z ≡ word g (3 * v + 2) % 2)
      → bits_add x y z k ≡ own_costs g v
  unfolding own_costs
  own_costs_are x y z k p q r f =
      let a = edge_both 0 x (edge_early g (3 * v + 0) (omega arith)) p in
      let b = edge_both 1 y (edge_early g (3 * v + 1) (omega arith)) q in
      let c = third_both z k r f in
      rw (a.0, a.1, b.0, b.1, c.0, c.1)

-- the words' costs once some have been turned
pub only_if_le : (f w : ℕ) → w ≤ 1 → if_equal f 0 0 w ≤ 1
unfolding if_equal
only_if_le f w h = go (eqb f 0)
  where
    go : (b : Bool) → cond b 0 w ≤ 1
    go true = omega arith
    go false = h

either_read : (z : List ℕ) (i j k a : ℕ) → a ≤ 1 → j ≡ i + a → k ≡ i + 1 - a
    → (if_equal a 0 (get_or z i 0) (get_or z (i + 1) 0) ≡ get_or z j 0) × (if_equal a 0 (get_or z (i + 1) 0) (get_or z i 0) ≡ get_or z k 0)
unfolding if_equal
either_read z i j k zero l p q = let e : j ≡ i = omega arith in let f : k ≡ i + 1 = omega arith in rw (e, f) (refl, refl)
either_read z i j k (suc zero) l p q = let e : j ≡ i + 1 = omega arith in let f : k ≡ i = omega arith in rw (e, f) (refl, refl)
either_read z i j k (suc (suc a)) l p q = absurd (omega arith)

swap_is : (z : List ℕ) (a b c : ℕ) → a ≤ 1 → b ≤ 1 → c ≤ 1
    → if_equal a 0 (get_or z 0 0) (get_or z 1 0) ∷ if_equal a 0 (get_or z 1 0) (get_or z 0 0) ∷ if_equal b 0 (get_or z 2 0) (get_or z 3 0) ∷ if_equal b 0 (get_or z 3 0) (get_or z 2 0)
    ∷ if_equal c 0 (get_or z 4 0) (get_or z 5 0) ∷ if_equal c 0 (get_or z 5 0) (get_or z 4 0) ∷ []
    ≡ swapped z a b c
unfolding swapped
swap_is z a b c l m n =
    let p = either_read z 0 a (1 - a) a l (omega arith) (omega arith) in
    let q = either_read z 2 (2 + b) (3 - b) b m (omega arith) (omega arith) in
    let r = either_read z 4 (4 + c) (5 - c) c n (omega arith) (omega arith) in
    rw (p.0, p.1, q.0, q.1, r.0, r.1)

pub given_is : (z w : List ℕ) (f a b c : ℕ) → ((i : ℕ) → get_or w i 0 ≤ 1) → a ≡ if_equal f 0 0 (get_or w 0 0) → b ≡ if_equal f 0 0 (get_or w 1 0) → c ≡ if_equal f 0 0 (get_or w 2 0)
    → (r s t u v x : ℕ) → r ≡ if_equal a 0 (get_or z 0 0) (get_or z 1 0) → s ≡ if_equal a 0 (get_or z 1 0) (get_or z 0 0) → t ≡ if_equal b 0 (get_or z 2 0) (get_or z 3 0)
    → u ≡ if_equal b 0 (get_or z 3 0) (get_or z 2 0) → v ≡ if_equal c 0 (get_or z 4 0) (get_or z 5 0) → x ≡ if_equal c 0 (get_or z 5 0) (get_or z 4 0) → r ∷ s ∷ t ∷ u ∷ v ∷ x ∷ [] ≡ given z w f
unfolding given
given_is z w f a b c h p q o r s t u v x e₀ e₁ e₂ e₃ e₄ e₅ =
    rw (e₀, e₁, e₂, e₃, e₄, e₅, p, q, o) (swap_is z _ _ _ (only_if_le f _ (h 0)) (only_if_le f _ (h 1)) (only_if_le f _ (h 2)))

swapped_le : (z : List ℕ) (a b c : ℕ) → ((i : ℕ) → get_or z i 0 ≤ 1) → (i : ℕ) → get_or (swapped z a b c) i 0 ≤ 1
unfolding swapped
swapped_le z a b c h zero = h a
swapped_le z a b c h (suc zero) = h (1 - a)
swapped_le z a b c h (suc (suc zero)) = h (2 + b)
swapped_le z a b c h (suc (suc (suc zero))) = h (3 - b)
swapped_le z a b c h (suc (suc (suc (suc zero)))) = h (4 + c)
swapped_le z a b c h (suc (suc (suc (suc (suc zero))))) = h (5 - c)
swapped_le z a b c h (suc (suc (suc (suc (suc (suc i)))))) = omega arith

pub given_numbers : (z w : List ℕ) (f r d : ℕ) → Numbers z r d → Numbers (given z w f) r d
unfolding given
given_numbers z w f r d n = record { bits = swapped_le z _ _ _ n.bits; some = n.some; few = n.few }

pub given_counted : (z w z' : List ℕ) (f r d : ℕ) → z' ≡ given z w f → Numbers z r d → Numbers z' r d
given_counted z w z' f r d e n = rw e (given_numbers z w f r d n)

module _ (p n : NodeNumbers) (w : List ℕ) (a : ℕ) where
  pub pair_is : (k s t : ℕ) (z : List ℕ) → z ≡ given n.costs w (flag p.xor a 3) → s ≡ cost_of p a → t ≡ cost_with n.xor z n.readers n.odd k
      → s + t + (get_or z 1 0 + get_or z 3 0 + get_or z 5 0) ≡ pair_cost p n w a k
  unfolding pair_cost cost_given others
  pair_is k s t z e q r = rw (q, r, e)

-- the node's answer
pub answered : (n : NodeNumbers) (w z : List ℕ) (f k c : ℕ) → Counted n → z ≡ given n.costs w f → LeastBelow (cost_with n.xor z n.readers n.odd) n.moves k c
    → Answered n w f k (c + (get_or z 1 0 + get_or z 3 0 + get_or z 5 0))
unfolding others
answered n w z f k c h e l =
    let b = given_counted n.costs w z f n.readers n.odd e h.numbers in
    record {
      found = rw (← e) l.found;
      cost = rw (← e) (omega (arith, l.cost));
      low = omega (arith, l.cost, cost_le n.xor z n.readers n.odd k b, b.bits 1, b.bits 3, b.bits 5, h.numbers.few);
    }

-- the first least pair: the named node's move is weighed with the node's answer to it
module _ (p n : NodeNumbers) (w : List ℕ) (k₀ c₀ k₁ c₁ : ℕ) (still : Answered n w 0 k₀ c₀) (turned : Answered n w 1 k₁ c₁) where
  -- the answer to move a
  answer : ℕ → ℕ
  answer a = if_equal (flag p.xor a 3) 0 k₀ k₁

  -- what move a leaves, with what the answer to it leaves
  weighed : ℕ → ℕ
  weighed a = cost_by p.xor p.costs (p.odd + c₀) (p.readers - p.odd + c₁) a

  costs : ℕ → ℕ → ℕ
  costs f k = cost_with n.xor (given n.costs w f) n.readers n.odd k

  answer_first : (a : ℕ) → FirstBelow (costs (flag p.xor a 3)) n.moves (answer a)
  unfolding answer if_equal costs
  answer_first a = by_flag (λ f. FirstBelow (costs f) n.moves (if_equal f 0 k₀ k₁)) still.found turned.found p.xor a 3 (omega arith)

  weighed_is : (a : ℕ) → weighed a ≡ pair_cost p n w a (answer a)
  unfolding weighed cost_by pair_cost cost_with cost_given answer costs if_equal
  weighed_is a =
      let own : ℕ = get_or p.costs (flag p.xor a 0) 0 + get_or p.costs (2 + flag p.xor a 1) 0 + get_or p.costs (4 + flag p.xor a 2) 0 in
      by_flag
      (λ f. own + if_equal f 0 (p.odd + c₀) (p.readers - p.odd + c₁) ≡ own + if_equal f 0 p.odd (p.readers - p.odd) + costs f (if_equal f 0 k₀ k₁) + others (given n.costs w f))
      (omega (arith, still.cost))
      (omega (arith, turned.cost))
      p.xor
      a
      3
      (omega arith)

  pub pair_of : (a f k : ℕ) → FirstBelow (cost_by p.xor p.costs (p.odd + c₀) (p.readers - p.odd + c₁)) p.moves a → f ≡ flag p.xor a 3 → k ≡ if_equal f 0 k₀ k₁
      → FirstPair (pair_cost p n w) p.moves n.moves a k
  unfolding pair_cost cost_given costs weighed answer
  pair_of a f k b d r =
      let same : k ≡ answer a = rw d at r in
      rw same
      (record {
        below = b.below;
        fits = (answer_first a).below;
        low = λ c l i j. omega (arith, b.low c i, weighed_is a, weighed_is c, (answer_first c).low l j);
        first = λ c l i j. omega (arith, b.first c i, weighed_is a, weighed_is c, (answer_first c).low l j);
        second = λ l i. omega (arith, (answer_first a).first l i);
      })
