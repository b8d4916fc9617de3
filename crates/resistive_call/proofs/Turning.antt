-- The numbers of a reader's words once the node that is decided is turned: the two of each word that names it change places. From the
-- definitions.
use mathlib.Core.Path.{◌≡◌, refl, sym, ap, ◌∙◌}
use mathlib.Core.Bool.{true, false}
use mathlib.Core.List.{List, [], ◌∷◌}
use mathlib.Core.Logic.{◌⊎◌, inl, inr, ⊎_elim, ◌≢◌}
use Prim.Native.Nat.{ℕ, ◌+◌, ◌-◌, ◌*◌, ◌/◌, ◌%◌, ◌≤◌, ◌<◌}
use native.Mathlib.Omega.{arith}
use borrow.Author.Tests.{lt-ltb, ne_eqb}
use lib.ListN.{get_or}
use Rattle.graph.specs.Admission.{Admitted}
use Rattle.graph.specs.Finite.{if_equal}
use Rattle.graph.specs.Graph.{Graph, mark, node, word, is_edge}
use Rattle.graph.proofs.Cases.{true_or_false, eq_or_ne}
use Rattle.graph.proofs.Edge.{edge_none}
use Rattle.graph.proofs.Tests.{equal, unequal}
use Rattle.moves.specs.Decide.{swapped, given, naming}
use Rattle.moves.proofs.Deciding.{naming_le}
use Rattle.state.specs.State.{field, Ordered}
use Rattle.trees.specs.Costing.{inner_at}
use Rattle.resistive_call.proofs.Words.{turn_own, turn_other, cost_above}
use Rattle.resistive_call.specs.Keys.{turn_at, turn_cost, word_key, word_at, word_keys}

-- p and q, as they stand or with their places changed
abbrev Pair : ℕ → ℕ → ℕ → ℕ → ℕ → Type 0
Pair a p q p' q' = ((a ≡ 0) × (p ≡ p') × (q ≡ q')) ⊎ ((a ≡ 1) × (q ≡ p') × (p ≡ q'))

module _ (p q r s t u : ℕ) where
  abbrev z : List ℕ
  z = p ∷ q ∷ r ∷ s ∷ t ∷ u ∷ []

  first_pair : (a p' q' : ℕ) → Pair a p q p' q' → (get_or z a 0 ≡ p') × (get_or z (1 - a) 0 ≡ q')
  first_pair a p' q' h =
      ⊎_elim
      (λ (k : (a ≡ 0) × (p ≡ p') × (q ≡ q')). rw k.0 (k.1, k.2))
      (λ (k : (a ≡ 1) × (q ≡ p') × (p ≡ q')). rw k.0 (k.1, k.2))
      h

  second_pair : (a p' q' : ℕ) → Pair a r s p' q' → (get_or z (2 + a) 0 ≡ p') × (get_or z (3 - a) 0 ≡ q')
  second_pair a p' q' h =
      ⊎_elim
      (λ (k : (a ≡ 0) × (r ≡ p') × (s ≡ q')). rw k.0 (k.1, k.2))
      (λ (k : (a ≡ 1) × (s ≡ p') × (r ≡ q')). rw k.0 (k.1, k.2))
      h

  third_pair : (a p' q' : ℕ) → Pair a t u p' q' → (get_or z (4 + a) 0 ≡ p') × (get_or z (5 - a) 0 ≡ q')
  third_pair a p' q' h =
      ⊎_elim
      (λ (k : (a ≡ 0) × (t ≡ p') × (u ≡ q')). rw k.0 (k.1, k.2))
      (λ (k : (a ≡ 1) × (u ≡ p') × (t ≡ q')). rw k.0 (k.1, k.2))
      h

  swapped_is : (a b c p' q' r' s' t' u' : ℕ) → Pair a p q p' q' → Pair b r s r' s' → Pair c t u t' u' → swapped z a b c ≡ p' ∷ q' ∷ r' ∷ s' ∷ t' ∷ u' ∷ []
  unfolding swapped
  swapped_is a b c p' q' r' s' t' u' x y w =
      let i = first_pair a p' q' x in
      let j = second_pair b r' s' y in
      let k = third_pair c t' u' w in
      rw (i.0, i.1, j.0, j.1, k.0, k.1)

one_turn : (k : ℕ) → if_equal 1 0 0 k ≡ k
unfolding if_equal
one_turn k = refl

module _ (h : Graph) (sc : List ℕ) (v : ℕ) (adm : Admitted h) (vn : v < h.N) (d : field sc v 3 ≢ mark) where
  -- v itself is turned as it is told
  inner_own : inner_at h.I sc (node h v) ≡ true
  unfolding inner_at
  inner_own = let e : node h v - (h.I + 1) ≡ v = omega arith in rw (lt-ltb h.I (node h v) (omega arith), e, ne_eqb (field sc v 3) mark d)

  own_cost_lem : (s t : ℕ) → turn_cost h sc v s (node h v) t ≡ if_equal t s 0 304100
  own_cost_lem s t = cost_above h sc v s (node h v) t inner_own (omega arith) ∙ ap (λ (x : ℕ). if_equal t x 0 304100) (turn_own h sc v s (node h v) refl)

  -- any other index is not changed
  other_turn : (u : ℕ) → u ≢ node h v → (s s' : ℕ) → turn_at h sc v s u ≡ turn_at h sc v s' u
  other_turn u q s s' = turn_other h sc v s u q ∙ sym (turn_other h sc v s' u q)

  other_cost : (u : ℕ) → u ≢ node h v → (s s' t : ℕ) → turn_cost h sc v s u t ≡ turn_cost h sc v s' u t
  unfolding turn_cost
  other_cost u q s s' t = rw (other_turn u q s s')

  -- at the other bit
  bit_turned : (x b : ℕ) → b ≤ 1 → ◌≡◌ {A = ℕ} (if_equal ((x + (1 - b)) % 2) 0 0 304100) (if_equal ((x + b) % 2) 1 0 304100)
  bit_turned x b l =
      ⊎_elim
      (λ (e : (x + b) % 2 ≡ 1).
      let f : (x + (1 - b)) % 2 ≡ 0 = omega arith in
      sym (equal ((x + (1 - b)) % 2) 0 0 304100 f refl) ∙ equal ((x + b) % 2) 1 0 304100 e refl)
      (λ (e : (x + b) % 2 ≢ 1).
      let f : (x + (1 - b)) % 2 ≢ 0 = λ y. e (omega arith) in
      sym (unequal ((x + (1 - b)) % 2) 0 0 304100 f refl) ∙ unequal ((x + b) % 2) 1 0 304100 e refl)
      (eq_or_ne ((x + b) % 2) 1)

  named_edge : (j : ℕ) → word h j / 2 ≡ node h v → is_edge h j ≡ true
  named_edge j q =
      ⊎_elim
      (λ (e : is_edge h j ≡ true). e)
      (λ (e : is_edge h j ≡ false). absurd (omega (arith, (edge_none h j e).1, adm.few_inputs, adm.few_nodes)))
      (true_or_false (is_edge h j))

  named_word : (j b : ℕ) → word h j / 2 ≡ node h v → b ≤ 1 → word_at h sc v 0 j (1 - b) ≡ word_at h sc v 1 j b
  unfolding word_key
  named_word j b q l =
      rw (named_edge j q, q)
      (own_cost_lem 0 ((word h j + (1 - b)) % 2) ∙ bit_turned (word h j) b l ∙ sym (own_cost_lem 1 ((word h j + b) % 2)))

  other_word : (j b : ℕ) → word h j / 2 ≢ node h v → word_at h sc v 0 j b ≡ word_at h sc v 1 j b
  unfolding word_key
  other_word j b q =
      ⊎_elim
      (λ (e : is_edge h j ≡ true). rw e (other_cost (word h j / 2) q 0 1 ((word h j + b) % 2)))
      (λ (e : is_edge h j ≡ false). rw e)
      (true_or_false (is_edge h j))

  pair_at_lem : (j : ℕ) → Pair (if_equal 1 0 0 (if_equal (word h j / 2) (node h v) 1 0)) (word_at h sc v 0 j 0) (word_at h sc v 0 j 1) (word_at h sc v 1 j 0) (word_at h sc v 1 j 1)
  pair_at_lem j =
      ⊎_elim
      (λ (q : word h j / 2 ≡ node h v).
      inr (one_turn _ ∙ sym (equal (word h j / 2) (node h v) 1 0 q refl), named_word j 0 q (omega arith), named_word j 1 q (omega arith)))
      (λ (q : word h j / 2 ≢ node h v).
      inl (one_turn _ ∙ sym (unequal (word h j / 2) (node h v) 1 0 q refl), other_word j 0 q, other_word j 1 q))
      (eq_or_ne (word h j / 2) (node h v))

  turned_keys : (w : ℕ) → given (word_keys h sc v 0 w) (naming h w (node h v)) 1 ≡ word_keys h sc v 1 w
  unfolding given word_keys naming
  turned_keys w = swapped_is _ _ _ _ _ _ _ _ _ _ _ _ _ _ _ (pair_at_lem (3 * w + 0)) (pair_at_lem (3 * w + 1)) (pair_at_lem (3 * w + 2))

pub turned_as : (g : Graph) (sc : List ℕ) → Ordered g sc → (w v u : ℕ) → v < g.N → field sc v 3 ≢ mark → (z n r : List ℕ) → z ≡ word_keys g sc v 0 w → u ≡ node g v → n ≡ naming g w u
    → r ≡ given z n 1 → r ≡ word_keys g sc v 1 w
turned_as g sc o w v u l d z n r ez eu en er =
    er ∙ ap (λ (y : List ℕ). given y n 1) ez ∙ ap (λ (y : List ℕ). given (word_keys g sc v 0 w) y 1) (en ∙ ap (naming g w) eu) ∙ turned_keys g sc v o.admitted l d w

pub naming_low : (g : Graph) (w u : ℕ) (n : List ℕ) → n ≡ naming g w u → (i : ℕ) → get_or n i 0 ≤ 1
naming_low g w u n e i = rw e (naming_le g w u i)
