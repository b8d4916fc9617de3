-- The cost of a node looks only at its words and at the costs of the nodes that they name.
use Rattle.std.proofs.Common.{◌≡◌, ℕ, ◌+◌, ◌*◌, ◌/◌, ◌%◌, ◌<◌, Bool, true, false, List, refl, ◌∙◌, ⊎_elim, arith}
use mathlib.Core.Path.{fun_ext}
use Rattle.graph.specs.Graph.{Graph, is_edge, is_xor, node, word}
use Rattle.moves.specs.Cost.{edge_cost, turned_cost, word_costs, word_cost, own_cost, move_cost, node_cost, base_cost, bit_cost}
use Rattle.moves.specs.Decide.{cost_with}
use Rattle.moves.specs.Rows.{moves_at}
use Rattle.graph.proofs.Cases.{true_or_false}

-- two graphs that have the same words at node v
module _ (ls : List ℕ) (g g' : Graph) (t t' : ℕ → Bool) (c c' : ℕ → ℕ → ℕ) (v : ℕ) (kind : is_xor g v ≡ is_xor g' v) (moves : moves_at g ls (node g v) ≡ moves_at g' ls (node g' v))
    (edge : (i : ℕ) → i < 3 → is_edge g (3 * v + i) ≡ is_edge g' (3 * v + i)) (words : (i : ℕ) → i < 3 → word g (3 * v + i) ≡ word g' (3 * v + i))
    (alike : (i : ℕ) → i < 3 → is_edge g' (3 * v + i) ≡ true → t (word g' (3 * v + i) / 2) ≡ t' (word g' (3 * v + i) / 2))
    (same : (i s : ℕ) → i < 3 → is_edge g' (3 * v + i) ≡ true → t' (word g' (3 * v + i) / 2) ≡ true → s < 2 → c (word g' (3 * v + i) / 2) s ≡ c' (word g' (3 * v + i) / 2) s) where
  turned_named : (i f : ℕ) → i < 3 → turned_cost g t c v i f ≡ turned_cost g' t' c' v i f
  unfolding turned_cost edge_cost
  turned_named i f l =
      let u : ℕ = word g' (3 * v + i) / 2 in
      ⊎_elim
      (λ (e : is_edge g' (3 * v + i) ≡ true).
      ⊎_elim
      (λ (q : t' u ≡ true). rw (edge i l, words i l, e, alike i l e, q, same i ((word g' (3 * v + i) + f) % 2) l e q (omega arith)))
      (λ (q : t' u ≡ false). rw (edge i l, words i l, e, alike i l e, q))
      (true_or_false (t' u)))
      (λ (e : is_edge g' (3 * v + i) ≡ false). rw (edge i l, e))
      (true_or_false (is_edge g' (3 * v + i)))

  costs_named : word_costs g t c v ≡ word_costs g' t' c' v
  unfolding word_costs
  costs_named =
      rw (
        turned_named 0 0 (omega arith),
        turned_named 0 1 (omega arith),
        turned_named 1 0 (omega arith),
        turned_named 1 1 (omega arith),
        turned_named 2 0 (omega arith),
        turned_named 2 1 (omega arith),
      )

  pub with_named : (r d : ℕ) → cost_with (is_xor g v) (word_costs g t c v) r d ≡ cost_with (is_xor g' v) (word_costs g' t' c' v) r d
  with_named r d = rw (kind, costs_named)

  pub own_named : (k : ℕ) → own_cost g t c v k ≡ own_cost g' t' c' v k
  unfolding own_cost word_cost
  own_named k = rw (kind, turned_named 0 _ (omega arith), turned_named 1 _ (omega arith), turned_named 2 _ (omega arith))

  pub move_named : (s : ℕ) → move_cost g t c v s ≡ move_cost g' t' c' v s
  unfolding move_cost
  move_named s = fun_ext (λ k. rw (kind, own_named k))

  node_named : (s : ℕ) → node_cost g ls t c v s ≡ node_cost g' ls t' c' v s
  unfolding node_cost
  node_named s = rw (move_named s, moves)

  pub bit_named : (s : ℕ) → bit_cost g ls t c v s ≡ bit_cost g' ls t' c' v s
  unfolding bit_cost base_cost
  bit_named s = rw (node_named s, node_named 0, node_named 1)

-- one graph, whose node v names only indices below B
module _ (ls : List ℕ) (g : Graph) (t t' : ℕ → Bool) (v B : ℕ) (below : (i : ℕ) → i < 3 → is_edge g (3 * v + i) ≡ true → word g (3 * v + i) / 2 < B) (c c' : ℕ → ℕ → ℕ)
    (alike : (u : ℕ) → u < B → t u ≡ t' u) (same : (u s : ℕ) → t u ≡ true → u < B → s < 2 → c u s ≡ c' u s) where
  alike_at : (i : ℕ) → i < 3 → is_edge g (3 * v + i) ≡ true → t (word g (3 * v + i) / 2) ≡ t' (word g (3 * v + i) / 2)
  alike_at i l e = alike _ (below i l e)

  same_at : (i s : ℕ) → i < 3 → is_edge g (3 * v + i) ≡ true → t' (word g (3 * v + i) / 2) ≡ true → s < 2 → c (word g (3 * v + i) / 2) s ≡ c' (word g (3 * v + i) / 2) s
  same_at i s l e q h = same _ s (alike_at i l e ∙ q) (below i l e) h

  pub bit_local : (s : ℕ) → bit_cost g ls t c v s ≡ bit_cost g ls t' c' v s
  bit_local = bit_named ls g g t t' c c' v refl refl (λ i l. refl) (λ i l. refl) alike_at same_at
