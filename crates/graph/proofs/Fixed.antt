-- The values as a fixed point: the constant's, an input's, and a node's from the values of all. From the laws on the list of values.
use Rattle.std.proofs.Common.{◌≡◌, ℕ, zero, suc, ◌+◌, ◌*◌, ◌/◌, ◌%◌, ◌<◌, ◌≤◌, true, false, List, ◌∷◌, get_or, sym, refl, ap, ◌∙◌, ⊎_elim, eq-or-lt_of_le, arith}
use native.Mathlib.Decide.{le_ind}
use lib.ListN.{get_or-eq_default}
use Rattle.graph.specs.Admission.{Admitted}
use Rattle.graph.specs.Graph.{Graph, word, is_edge, is_xor}
use Rattle.graph.specs.Value.{exclusive, majority, literal_value, node_value, values, value, output_value}
use Rattle.graph.proofs.Cases.{lt_or_le, true_or_false}
use Rattle.graph.proofs.Edge.{edge_early, third_majority}
use Rattle.graph.proofs.Finite.{get_d_tab, tab_same}
use Rattle.graph.proofs.Values.{literal_bit, length_values, values_old, values_new, input_bit}

pub majority_bit : (x y z : ℕ) → x < 2 → y < 2 → z < 2 → majority x y z < 2
unfolding majority
majority_bit x y z hx hy hz = omega arith

pub node_bit : (g : Graph) (vs : List ℕ) (v : ℕ) → node_value g vs v < 2
unfolding node_value exclusive
node_bit g vs v =
    ⊎_elim
    (λ (e : is_xor g v ≡ true). rw e (omega arith))
    (λ (e : is_xor g v ≡ false). rw e (majority_bit _ _ _ (literal_bit _ _) (literal_bit _ _) (literal_bit _ _)))
    (true_or_false (is_xor g v))

-- two nodes of one kind, whose literals have the same values
pub node_same : (g h : Graph) (vs ws : List ℕ) (v w : ℕ) → is_xor g v ≡ is_xor h w
    → ((k : ℕ) → k < 3 → is_edge g (3 * v + k) ≡ true → literal_value vs (word g (3 * v + k)) ≡ literal_value ws (word h (3 * w + k)))
    → node_value g vs v ≡ node_value h ws w
unfolding node_value
node_same g h vs ws v w x s =
    let s₀ = s 0 (omega arith) (edge_early g (3 * v + 0) (omega arith)) in
    let s₁ = s 1 (omega arith) (edge_early g (3 * v + 1) (omega arith)) in
    ⊎_elim
    (λ (e : is_xor g v ≡ true). rw (← x, e, s₀, s₁))
    (λ (e : is_xor g v ≡ false). rw (← x, e, s₀, s₁, s 2 (omega arith) (third_majority g v e)))
    (true_or_false (is_xor g v))

pub literal_same : (vs ws : List ℕ) (x : ℕ) → get_or vs (x / 2) 0 ≡ get_or ws (x / 2) 0 → literal_value vs x ≡ literal_value ws x
unfolding literal_value
literal_same vs ws x e = rw e

module _ (g : Graph) (a : ℕ → ℕ) where
  pub value_at : (n : ℕ) → n ≤ g.N → (i : ℕ) → i < g.I + 1 + n → value g a i ≡ get_or (values g a n) i 0
  unfolding value
  value_at n h i l = le_ind (λ (m : ℕ). get_or (values g a m) i 0 ≡ get_or (values g a n) i 0) refl (λ m k s. values_old g a m i (omega arith) ∙ s) g.N h

  pub value_zero : value g a 0 ≡ 0
  unfolding values
  value_zero = value_at 0 (omega arith) 0 (omega arith)

  pub value_input : (k : ℕ) → k < g.I → value g a (suc k) ≡ a k % 2
  unfolding values
  value_input k h = value_at 0 (omega arith) (suc k) (omega arith) ∙ get_d_tab g.I (λ j. a j % 2) k h

  pub value_node : Admitted g → (v : ℕ) → v < g.N → value g a (g.I + 1 + v) ≡ node_value g (values g a g.N) v
  unfolding value
  value_node adm v h =
      value_at (suc v) h (g.I + 1 + v) (omega arith)
      ∙ values_new g a v
      ∙ node_same g g (values g a v) (values g a g.N) v v refl
      (λ k l e. literal_same _ _ _ (sym (value_at v (omega arith) (word g (3 * v + k) / 2) (omega (arith, adm.below (3 * v + k) (omega arith) e)))))

  pub value_bit : (i : ℕ) → value g a i < 2
  unfolding value
  value_bit i = go g.N i
    where
      go : (n i : ℕ) → get_or (values g a n) i 0 < 2
      go zero i =
          ⊎_elim (λ (h : i < g.I + 1). input_bit g a i h) (λ (h : g.I + 1 ≤ i). rw (get_or-eq_default (values g a 0) 0 {n = i} (rw length_values (omega arith))) (omega arith)) (lt_or_le i (g.I + 1))
      go (suc n) i =
          ⊎_elim (λ (h : i < g.I + 1 + n). rw (values_old g a n i h) (go n i))
          (λ (h : g.I + 1 + n ≤ i).
          ⊎_elim (λ (q : g.I + 1 + n ≡ i). rw (← q, values_new g a n) (node_bit g (values g a n) n))
          (λ (l : g.I + 1 + n < i). rw (get_or-eq_default (values g a (suc n)) 0 {n = i} (rw length_values (omega arith))) (omega arith))
          (eq-or-lt_of_le h))
          (lt_or_le i (g.I + 1 + n))

-- a function of the indices that goes by the graph's rules is the value
pub unique : (h : Graph) → Admitted h → (a f : ℕ → ℕ) → f 0 ≡ 0 → ((k : ℕ) → k < h.I → f (suc k) ≡ a k % 2)
    → ((v : ℕ) → v < h.N → ((i : ℕ) → i < h.I + 1 + v → value h a i ≡ f i) → node_value h (values h a h.N) v ≡ f (h.I + 1 + v))
    → (n : ℕ) → n ≤ h.N → (i : ℕ) → i < h.I + 1 + n → value h a i ≡ f i
unique h adm a f c p s zero l zero k = value_zero h a ∙ sym c
unique h adm a f c p s zero l (suc i) k = value_input h a i (omega arith) ∙ sym (p i (omega arith))
unique h adm a f c p s (suc n) l i k =
    ⊎_elim
    (λ (q : i ≡ h.I + 1 + n). rw q (value_node h a adm n (omega arith) ∙ s n (omega arith) (unique h adm a f c p s n (omega arith))))
    (λ (z : i < h.I + 1 + n). unique h adm a f c p s n (omega arith) i z)
    (eq-or-lt_of_le (omega arith))

-- of two assignments that give every input the same bit, the values are the same
values_alike : (g : Graph) (a b : ℕ → ℕ) → ((k : ℕ) → k < g.I → a k % 2 ≡ b k % 2) → (n : ℕ) → values g a n ≡ values g b n
unfolding values
values_alike g a b h zero = ap (λ (l : List ℕ). 0 ∷ l) (tab_same g.I (λ k. a k % 2) (λ k. b k % 2) h)
values_alike g a b h (suc n) = rw (values_alike g a b h n)

pub output_alike : (g : Graph) (a b : ℕ → ℕ) → ((k : ℕ) → k < g.I → a k % 2 ≡ b k % 2) → (j : ℕ) → output_value g a j ≡ output_value g b j
unfolding output_value
output_alike g a b h j = rw (values_alike g a b h g.N)
