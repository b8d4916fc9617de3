-- What scratch has of a node, by its fields; and that what is known of an index is its truth value. From the definitions.
use mathlib.Core.Path.{◌≡◌, refl, sym, ap, ◌∙◌}
use mathlib.Core.Bool.{Bool, true, false, cond, and-false}
use mathlib.Core.Logic.{⊎_elim, ◌≢◌}
use mathlib.Core.List.{List}
use Prim.Native.Nat.{ℕ, zero, suc, ◌+◌, ◌-◌, ◌≤◌, ◌<◌}
use native.Mathlib.Omega.{arith}
use borrow.Author.Tests.{eq-eqb, ne_eqb, lt-ltb, le-ltb}
use lib.Dec.{eqb}
use Rattle.graph.specs.Finite.{if_less, if_equal}
use Rattle.graph.specs.Graph.{Graph, node}
use Rattle.graph.proofs.Cases.{lt_or_le, eq_or_ne, true_or_false}
use Rattle.state.specs.State.{field}
use Rattle.hidden.specs.Truth.{Triple, leak, free, node_byte, over, truth}
use Rattle.hidden.proofs.Bytes.{free_apart, truth_le}
use Rattle.hidden.proofs.Over.{truth_zero, truth_input, truth_node}
use Rattle.hidden.specs.Ways.{Misses}
use Rattle.majority_call.specs.Valuing.{is_valued, Asked, unknown, kept_at, known_at}

-- by its fields
module _ (sc : List ℕ) (t : Triple) (v : ℕ) where
  pub not_one : field sc v 2 ≢ t.one → false ≡ is_valued sc t v
  unfolding is_valued
  not_one h = rw (ne_eqb (field sc v 2) t.one h)

  pub not_two : field sc v 3 ≢ t.two → false ≡ is_valued sc t v
  unfolding is_valued
  not_two h = rw (ne_eqb (field sc v 3) t.two h, and-false)

  pub by_three : (r : Bool) (x : ℕ) → field sc v 2 ≡ t.one → field sc v 3 ≡ t.two → x ≡ field sc v 4 → r ≡ eqb x t.three → r ≡ is_valued sc t v
  unfolding is_valued
  by_three r x p q e s = s ∙ rw (e, eq-eqb (field sc v 2) t.one p, eq-eqb (field sc v 3) t.two q)

  -- what is kept of it
  module _ (i : ℕ) where
    pub kept_high : t.one ≤ i + 1 + v → kept_at i sc t v ≡ cond (is_valued sc t v) (field sc v 5) unknown
    unfolding kept_at if_less
    kept_high h = rw (le-ltb (i + 1 + v) t.one h)

    pub kept_way : i + 1 + v < t.one → 1 < field sc v 0 → kept_at i sc t v ≡ leak
    unfolding kept_at if_less
    kept_way h k = rw (lt-ltb (i + 1 + v) t.one h, lt-ltb 1 (field sc v 0) k)

    pub kept_none : i + 1 + v < t.one → field sc v 0 ≤ 1 → kept_at i sc t v ≡ cond (is_valued sc t v) (field sc v 5) unknown
    unfolding kept_at if_less
    kept_none h k = rw (lt-ltb (i + 1 + v) t.one h, le-ltb 1 (field sc v 0) k)

-- a node's field 5, or 512
abbrev slot : List ℕ → Triple → ℕ → ℕ
slot sc t v = cond (is_valued sc t v) (field sc v 5) unknown

module _ (g : Graph) (sc : List ℕ) (t : Triple) (ask : Asked g sc t) where
  slot_is : (v : ℕ) → v < g.N → slot sc t v ≢ unknown → slot sc t v ≡ truth g t (node g v)
  slot_is v h n =
      ⊎_elim
      (λ (e : is_valued sc t v ≡ true). rw e (ask.facts.valued v t h ask.positive e))
      (λ (e : is_valued sc t v ≡ false). absurd (n (rw e)))
      (true_or_false (is_valued sc t v))

  slot_none : (v : ℕ) → v < g.N → slot sc t v ≡ unknown → is_valued sc t v ≡ false
  slot_none v h e =
      ⊎_elim
      (λ (q : is_valued sc t v ≡ true).
      let p : field sc v 5 ≡ unknown = rw q at e in
      absurd (omega (arith, p, ask.facts.valued v t h ask.positive q, truth_le g t (node g v) (omega arith))))
      (λ (q : is_valued sc t v ≡ false). q)
      (true_or_false (is_valued sc t v))

  kept_is : (v : ℕ) → v < g.N → kept_at g.I sc t v ≢ unknown → kept_at g.I sc t v ≡ truth g t (node g v)
  kept_is v h n =
      ⊎_elim
      (λ (l : g.I + 1 + v < t.one).
      ⊎_elim
      (λ (k : 1 < field sc v 0). kept_way sc t v g.I l k ∙ sym (ask.facts.way v t h k l ask.second ask.third))
      (λ (k : field sc v 0 ≤ 1). let e = kept_none sc t v g.I l k in e ∙ slot_is v h (λ z. n (e ∙ z)))
      (lt_or_le 1 (field sc v 0)))
      (λ (l : t.one ≤ g.I + 1 + v). let e = kept_high sc t v g.I l in e ∙ slot_is v h (λ z. n (e ∙ z)))
      (lt_or_le (g.I + 1 + v) t.one)

  kept_free : (v : ℕ) → v < g.N → kept_at g.I sc t v ≡ unknown → is_valued sc t v ≡ false
  kept_free v h n =
      ⊎_elim
      (λ (l : g.I + 1 + v < t.one).
      ⊎_elim
      (λ (k : 1 < field sc v 0). absurd (omega (arith, n, kept_way sc t v g.I l k)))
      (λ (k : field sc v 0 ≤ 1). slot_none v h (sym (kept_none sc t v g.I l k) ∙ n))
      (lt_or_le 1 (field sc v 0)))
      (λ (l : t.one ≤ g.I + 1 + v). slot_none v h (sym (kept_high sc t v g.I l) ∙ n))
      (lt_or_le (g.I + 1 + v) t.one)

  -- by the index
  known_one : (i : ℕ) → i ≡ t.one → known_at g.I sc t i ≡ 170
  unfolding known_at if_equal
  known_one i e = rw (eq-eqb i t.one e)

  known_two : (i : ℕ) → i ≢ t.one → i ≡ t.two → known_at g.I sc t i ≡ 204
  unfolding known_at if_equal
  known_two i p e = rw (ne_eqb i t.one p, eq-eqb i t.two e)

  known_three : (i : ℕ) → i ≢ t.one → i ≢ t.two → i ≡ t.three → known_at g.I sc t i ≡ 240
  unfolding known_at if_equal
  known_three i p q e = rw (ne_eqb i t.one p, ne_eqb i t.two q, eq-eqb i t.three e)

  known_zero : Misses t 0 → known_at g.I sc t 0 ≡ 0
  unfolding known_at if_equal
  known_zero a = rw (ne_eqb 0 t.one a.one, ne_eqb 0 t.two a.two, ne_eqb 0 t.three a.three)

  known_input : (k : ℕ) → Misses t (suc k) → k < g.I → known_at g.I sc t (suc k) ≡ leak
  unfolding known_at if_equal if_less
  known_input k a h =
      rw (ne_eqb (suc k) t.one a.one, ne_eqb (suc k) t.two a.two, ne_eqb (suc k) t.three a.three, ne_eqb (suc k) 0 (omega arith), le-ltb g.I (suc k) (omega arith))

  known_node : (v : ℕ) → Misses t (node g v) → known_at g.I sc t (node g v) ≡ kept_at g.I sc t v
  unfolding known_at if_equal if_less
  known_node v a =
      let e : node g v - (g.I + 1) ≡ v = omega arith in
      rw (ne_eqb (node g v) t.one a.one, ne_eqb (node g v) t.two a.two, ne_eqb (node g v) t.three a.three, ne_eqb (node g v) 0 (omega arith), lt-ltb g.I (node g v) (omega arith), e)

  -- the truth value of a member
  free_one : (i x : ℕ) → i ≡ t.one → free t i x ≡ 170
  unfolding free if_equal
  free_one i x e = rw (eq-eqb i t.one e)

  free_two : (i x : ℕ) → i ≢ t.one → i ≡ t.two → free t i x ≡ 204
  unfolding free if_equal
  free_two i x p e = rw (ne_eqb i t.one p, eq-eqb i t.two e)

  free_three : (i x : ℕ) → i ≢ t.one → i ≢ t.two → i ≡ t.three → free t i x ≡ 240
  unfolding free if_equal
  free_three i x p q e = rw (ne_eqb i t.one p, ne_eqb i t.two q, eq-eqb i t.three e)

  member : (i y : ℕ) → i < node g g.N → i ≢ 0 → ((x : ℕ) → free t i x ≡ y) → truth g t i ≡ y
  member zero y h n e = absurd (n refl)
  member (suc k) y h n e =
      ⊎_elim
      (λ (l : k < g.I). truth_input g t k l ∙ e leak)
      (λ (l : g.I ≤ k).
      let v : ℕ = k - g.I in
      let q : g.I + 1 + v ≡ suc k = omega arith in
      ap (truth g t) (sym q) ∙ truth_node g t v (omega arith) ∙ ap (λ z. free t z (node_byte g (over g t v) v)) q ∙ e (node_byte g (over g t v) v))
      (lt_or_le k g.I)

  -- by cases of the index
  by_index_lem : (P : ℕ → Type 0) (i : ℕ) → i < node g g.N
      → (i ≡ t.one → P i) → (i ≢ t.one → i ≡ t.two → P i) → (i ≢ t.one → i ≢ t.two → i ≡ t.three → P i)
      → (Misses t 0 → P 0) → ((k : ℕ) → Misses t (suc k) → k < g.I → P (suc k)) → ((v : ℕ) → v < g.N → Misses t (node g v) → P (node g v)) → P i
  by_index_lem P i h one two three none input inner =
      ⊎_elim one
      (λ (p : i ≢ t.one).
      ⊎_elim (two p)
      (λ (q : i ≢ t.two).
      ⊎_elim (three p q)
      (λ (r : i ≢ t.three). rest i h (record { one = p; two = q; three = r }))
      (eq_or_ne i t.three))
      (eq_or_ne i t.two))
      (eq_or_ne i t.one)
    where
      rest : (i : ℕ) → i < node g g.N → Misses t i → P i
      rest zero h a = none a
      rest (suc k) h a =
          ⊎_elim
          (λ (l : k < g.I). input k a l)
          (λ (l : g.I ≤ k).
          let v : ℕ = k - g.I in
          let q : suc k ≡ node g v = omega arith in
          rw q (inner v (omega arith) (rw q at a)))
          (lt_or_le k g.I)

  -- what is known is the truth value
  pub known_is : (i : ℕ) → i < node g g.N → known_at g.I sc t i ≢ unknown → known_at g.I sc t i ≡ truth g t i
  known_is i h =
      by_index_lem (λ i. known_at g.I sc t i ≢ unknown → known_at g.I sc t i ≡ truth g t i) i h
      (λ e n. known_one i e ∙ sym (member i 170 h (λ z. omega (arith, ask.positive)) (λ x. free_one i x e)))
      (λ p e n. known_two i p e ∙ sym (member i 204 h (λ z. omega (arith, ask.second)) (λ x. free_two i x p e)))
      (λ p q e n. known_three i p q e ∙ sym (member i 240 h (λ z. omega (arith, ask.third)) (λ x. free_three i x p q e)))
      (λ a n. known_zero a ∙ sym (truth_zero g t))
      (λ k a l n. known_input k a l ∙ sym (truth_input g t k l ∙ free_apart t (suc k) leak a.one a.two a.three))
      (λ v l a n. let e = known_node v a in e ∙ kept_is v l (λ z. n (e ∙ z)))

  -- and what is not is a node without a value
  pub record Unknown (i : ℕ) : Type 0 where
    pub is_node_lem : g.I < i
    pub free : is_valued sc t (i - (g.I + 1)) ≡ false
    pub apart : Misses t i

  pub known_next : (i : ℕ) → i < node g g.N → known_at g.I sc t i ≡ unknown → Unknown i
  known_next i h =
      by_index_lem (λ i. known_at g.I sc t i ≡ unknown → Unknown i) i h
      (λ e n. absurd (omega (arith, n, known_one i e)))
      (λ p e n. absurd (omega (arith, n, known_two i p e)))
      (λ p q e n. absurd (omega (arith, n, known_three i p q e)))
      (λ a n. absurd (omega (arith, n, known_zero a)))
      (λ k a l n. absurd (omega (arith, n, known_input k a l)))
      (λ v l a n.
      let e : node g v - (g.I + 1) ≡ v = omega arith in
      record { is_node_lem = omega arith; free = rw e (kept_free v l (sym (known_node v a) ∙ n)); apart = a })
