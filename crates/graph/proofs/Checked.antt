-- The first fault of literals, by how many are at fault: all have the number 5. From the laws on tests and on places.
use Rattle.std.proofs.Common.{◌≡◌, ℕ, zero, suc, ◌+◌, ◌*◌, ◌/◌, ◌%◌, ◌<◌, ◌≤◌, Bool, true, false, cond, ltb, ◌≢◌, List, get_or, sym, refl, ap, ◌∙◌, ⊎_elim, arith, eq-eqb}
use Rattle.graph.specs.Finite.{if_less, if_equal, first, first_of, sum}
use Rattle.graph.specs.Graph.{Graph, graph_of, mark, index, is_edge}
use Rattle.graph.specs.Admission.{word_number}
use Rattle.graph.specs.Inner.{Names, over_at, third_over, high_node, high_at, odd_mark, fault_at, Counts, Thirds}
use Rattle.graph.specs.Literals.{bit_at, index_at, literals, held}
use Rattle.graph.proofs.Cases.{lt_or_le, eq_or_ne}
use Rattle.graph.proofs.Edge.{edge_early, edge_third}
use Rattle.graph.proofs.Finite.{sum_three}
use Rattle.graph.proofs.Literals.{bit_at_le, index_at_le, literal_mark, literal_none, literal_no_mark, literal_names, held_at, names_below}
use Rattle.graph.proofs.Tests.{less, no_less, equal, unequal, fault, none}

-- 5 where something is counted
abbrev pub any_of : ℕ → ℕ
any_of c = if_less 0 c 5 0

any_first : (a b : ℕ) → first (any_of a) (any_of b) ≡ any_of (a + b)
any_first zero b = let e : zero + b ≡ b = omega arith in rw e (sym (none (any_of 0) (any_of b) (sym (no_less 0 0 5 0 (omega arith) refl)) refl))
any_first (suc a) b =
    let e : ◌≡◌ {A = ℕ} 5 (any_of (suc a)) = less 0 (suc a) 5 0 (omega arith) refl in
    sym (fault (any_of (suc a)) (any_of b) e (λ z. omega arith)) ∙ less 0 (suc a + b) 5 0 (omega arith) refl

pub counted_first : (n : ℕ) (f s : ℕ → ℕ) → ((j : ℕ) → j < n → f j ≡ any_of (s j)) → first_of n f ≡ any_of (sum n s)
unfolding first_of sum
counted_first zero f s h = no_less 0 0 5 0 (omega arith) refl
counted_first (suc n) f s h = rw (counted_first n f s (λ j k. h j (omega arith)), h n (omega arith)) (any_first (sum n s) (s n))

-- one index that is not below
below_five : (u k e : ℕ) → ltb u e ≡ ltb k e → ◌≡◌ {A = ℕ} (if_less k e 0 5) (any_of (if_less u e 0 1))
unfolding if_less
below_five u k e q = rw q (by (ltb k e))
  where
    by : (b : Bool) → ◌≡◌ {A = ℕ} (cond b 0 5) (cond (ltb 0 (cond b 0 1)) 5 0)
    by true = refl
    by false = refl

-- one more than the mark is 0
pub third_by_lem : (x w e : ℕ) → x < 4294967296 → w ≡ (x + 1) % 4294967296 → ◌≡◌ {A = ℕ} (if_less w (e + 1) 0 1) (if_equal x mark 0 (if_less x e 0 1))
third_by_lem x w e h q =
    ⊎_elim
    (λ (m : x ≡ mark). sym (less w (e + 1) 0 1 (omega arith) refl) ∙ equal x mark 0 (if_less x e 0 1) m refl)
    (λ (m : x ≢ mark).
    unequal x mark 0 (if_less x e 0 1) m
    (⊎_elim
    (λ (l : x < e). sym (less w (e + 1) 0 1 (omega arith) refl) ∙ less x e 0 1 l refl)
    (λ (l : e ≤ x). sym (no_less w (e + 1) 0 1 (omega arith) refl) ∙ no_less x e 0 1 l refl)
    (lt_or_le x e)))
    (eq_or_ne x mark)

module _ (us bs : List ℕ) (j : ℕ) (h : j < held (literals us bs)) where
  named : Names (get_or (literals us bs) j 0) (index_at us j)
  named = rw (held_at us bs j h) (literal_names (index_at us j) (bit_at bs j) (index_at_le us j) (bit_at_le bs j))

  pub over_five : (e : ℕ) → e ≤ 2147483647 → if_less (index (get_or (literals us bs) j 0)) e 0 5 ≡ any_of (over_at e us j)
  unfolding over_at
  over_five e l = below_five (index_at us j) (index (get_or (literals us bs) j 0)) e (names_below named e l)

-- the words of a node table with i inputs: by the index table, and by the bits where the mark stands there
module _ (i n o : ℕ) (us bs os : List ℕ) (few : i ≤ 4096) (j : ℕ) (h : j < held (literals us bs)) (low : j < 300000) where
  abbrev g : Graph
  g = graph_of i n o (literals us bs) os

  abbrev own : ℕ
  own = i + 1 + j / 3

  abbrev at_fault : ℕ
  at_fault = high_at i us j + odd_mark us bs j

  -- an edge whose index table has no mark
  edge_five : is_edge g j ≡ true → high_at i us j ≡ over_at own us j → odd_mark us bs j ≡ 0 → word_number g j ≡ any_of at_fault
  unfolding word_number
  edge_five e p q =
      rw e (over_five us bs j h own (omega arith) ∙ ap any_of (let z : over_at own us j ≡ over_at own us j + 0 = omega arith in z ∙ rw (p, q)))

  early : (j % 3 ≡ 2 → ⊥) → word_number g j ≡ any_of at_fault
  unfolding high_at odd_mark
  early k = edge_five (edge_early g j k) (sym (unequal (j % 3) 2 (third_over own us j) (over_at own us j) k refl)) (sym (unequal (j % 3) 2 _ 0 k refl))

  module _ (t : j % 3 ≡ 2) where
    high_third : high_at i us j ≡ third_over own us j
    unfolding high_at
    high_third = sym (equal (j % 3) 2 (third_over own us j) (over_at own us j) t refl)

    odd_third : odd_mark us bs j ≡ if_equal (index_at us j) mark (bit_at bs j) 0
    unfolding odd_mark
    odd_third = sym (equal (j % 3) 2 (if_equal (index_at us j) mark (bit_at bs j) 0) 0 t refl)

    plain : index_at us j ≢ mark → word_number g j ≡ any_of at_fault
    unfolding third_over
    plain k =
        edge_five (edge_third g j t (rw (held_at us bs j h) (literal_no_mark (index_at us j) (bit_at bs j) (index_at_le us j) (bit_at_le bs j) k)))
        (high_third ∙ sym (unequal (index_at us j) mark 0 (over_at own us j) k refl))
        (odd_third ∙ sym (unequal (index_at us j) mark (bit_at bs j) 0 k refl))

    module _ (e : index_at us j ≡ mark) where
      at_mark : at_fault ≡ bit_at bs j
      unfolding third_over
      at_mark =
          omega (arith, high_third, odd_third, sym (equal (index_at us j) mark 0 (over_at own us j) e refl), sym (equal (index_at us j) mark (bit_at bs j) 0 e refl))

      clear : bit_at bs j ≡ 0 → word_number g j ≡ any_of at_fault
      unfolding word_number is_edge
      clear z =
          rw (eq-eqb (j % 3) 2 t, eq-eqb (get_or (literals us bs) j 0) mark (held_at us bs j h ∙ literal_mark (index_at us j) (bit_at bs j) (omega arith) (omega arith)))
          (no_less 0 at_fault 5 0 (omega (arith, at_mark)) refl)

      set : 0 < bit_at bs j → word_number g j ≡ any_of at_fault
      unfolding word_number
      set l =
          let b = bit_at_le bs j in
          let q = held_at us bs j h ∙ literal_none (index_at us j) (bit_at bs j) (omega arith) (omega arith) in
          rw (edge_third g j t (λ z. omega (arith, q)))
          (sym (no_less (index (get_or (literals us bs) j 0)) own 0 5 (omega (arith, q)) refl) ∙ less 0 at_fault 5 0 (omega (arith, at_mark)) refl)

  pub word_counted : word_number g j ≡ any_of (fault_at i us bs j)
  unfolding fault_at
  word_counted =
      ⊎_elim
      (λ (t : j % 3 ≡ 2).
      ⊎_elim
      (λ (e : index_at us j ≡ mark).
      ⊎_elim (λ (l : 0 < bit_at bs j). set t e l) (λ (l : bit_at bs j ≤ 0). clear t e (omega arith)) (lt_or_le 0 (bit_at bs j)))
      (λ (k : index_at us j ≢ mark). plain t k)
      (eq_or_ne (index_at us j) mark))
      early
      (eq_or_ne (j % 3) 2)

-- the three words of node v, from place p on, where e is its own index
module _ (i : ℕ) (us bs : List ℕ) (v p e : ℕ) (q : p ≡ 3 * v) (own : e ≡ i + 1 + v) where
  early_at : (k : ℕ) → k < 2 → fault_at i us bs (p + k) ≡ over_at e us (p + k)
  unfolding fault_at high_at odd_mark
  early_at k h =
      let j = p + k in
      let d : i + 1 + j / 3 ≡ e = omega arith in
      rw (sym (unequal (j % 3) 2 (third_over (i + 1 + j / 3) us j) (over_at (i + 1 + j / 3) us j) (omega arith) refl), sym (unequal (j % 3) 2 (if_equal (index_at us j) mark (bit_at bs j) 0) 0 (omega arith) refl), d)
      (omega arith)

  third_at : fault_at i us bs (p + 2) ≡ third_over e us (p + 2) + if_equal (index_at us (p + 2)) mark (bit_at bs (p + 2)) 0
  unfolding fault_at high_at odd_mark
  third_at =
      let j = p + 2 in
      let d : i + 1 + j / 3 ≡ e = omega arith in
      rw (sym (equal (j % 3) 2 (third_over (i + 1 + j / 3) us j) (over_at (i + 1 + j / 3) us j) (omega arith) refl), sym (equal (j % 3) 2 (if_equal (index_at us j) mark (bit_at bs j) 0) 0 (omega arith) refl), d)

  pub node_next : (r : ℕ) → r ≡ high_node e us p + if_equal (index_at us (p + 2)) mark (bit_at bs (p + 2)) 0
      → sum (3 * (v + 1)) (fault_at i us bs) ≡ sum (3 * v) (fault_at i us bs) + r
  unfolding high_node
  node_next r h =
      let z : p + 0 ≡ p = omega arith in
      let a = rw z at (early_at 0 (omega arith)) in
      rw (sum_three v (fault_at i us bs), ← q) (omega (arith, h, a, early_at 1 (omega arith), third_at))

-- a mark with its bit, counted w times
weighed : (b w : ℕ) → b ≤ 1 → 1 ≤ w → w ≤ 2048 → Counts b (b * w)
weighed zero w h k l = record { least = omega arith; most = omega arith }
weighed (suc zero) w h k l = record { least = omega arith; most = omega arith }
weighed (suc (suc b)) w h k l = absurd (omega arith)

mark_weighed : (x b w : ℕ) → b ≤ 1 → 1 ≤ w → w ≤ 2048 → Counts (if_equal x mark b 0) (if_equal x mark (b * w) 0)
mark_weighed x b w h k l =
    ⊎_elim
    (λ (e : x ≡ mark). rw (sym (equal x mark b 0 e refl), sym (equal x mark (b * w) 0 e refl)) (weighed b w h k l))
    (λ (n : x ≢ mark). rw (sym (unequal x mark b 0 n refl), sym (unequal x mark (b * w) 0 n refl)) (weighed 0 1 (omega arith) (omega arith) (omega arith)))
    (eq_or_ne x mark)

module _ (i : ℕ) (us bs : List ℕ) where
  node_counts : (v p e : ℕ) → p ≡ 3 * v → e ≡ i + 1 + v → (b w r c : ℕ) → b ≡ bit_at bs (p + 2) → 1 ≤ w → w ≤ 2048
      → r ≡ high_node e us p + if_equal (index_at us (p + 2)) mark (b * w) 0
      → Counts (sum (3 * v) (fault_at i us bs)) c → Counts (sum (3 * (v + 1)) (fault_at i us bs)) (c + r)
  node_counts v p e q own b w r c h k l d s =
      let m = mark_weighed (index_at us (p + 2)) (bit_at bs (p + 2)) w (bit_at_le bs (p + 2)) k l in
      let n = node_next i us bs v p e q own (high_node e us p + if_equal (index_at us (p + 2)) mark (bit_at bs (p + 2)) 0) refl in
      let t = rw h at d in
      record { least = omega (arith, m.least, n, t, s.least); most = omega (arith, m.most, n, t, s.most) }

  -- four nodes more
  pub four_next : (j b : ℕ) → Thirds bs (12 * j) b → (c₀ c₁ c₂ c₃ r₀ r₁ r₂ r₃ : ℕ) → Counts (sum (12 * j) (fault_at i us bs)) (c₀ + c₁ + c₂ + c₃)
      → r₀ ≡ high_node (i + 4 * j + 1) us (12 * j) + if_equal (index_at us (12 * j + 2)) mark (b / 4 % 2 * 4) 0
      → r₁ ≡ high_node (i + 4 * j + 1 + 1) us (12 * j + 3) + if_equal (index_at us (12 * j + 3 + 2)) mark (b / 32 % 2 * 32) 0
      → r₂ ≡ high_node (i + 4 * j + 2 + 1) us (12 * j + 6) + if_equal (index_at us (12 * j + 6 + 2)) mark (b / 256 % 2 * 256) 0
      → r₃ ≡ high_node (i + 4 * j + 3 + 1) us (12 * j + 9) + if_equal (index_at us (12 * j + 9 + 2)) mark (b / 2048 % 2 * 2048) 0
      → Counts (sum (12 * (j + 1)) (fault_at i us bs)) (c₀ + r₀ + (c₁ + r₁) + (c₂ + r₂) + (c₃ + r₃))
  four_next j b t c₀ c₁ c₂ c₃ r₀ r₁ r₂ r₃ s h₀ h₁ h₂ h₃ =
      let p = 12 * j in
      let a : 12 * j ≡ 3 * (4 * j) = omega arith in
      let e₁ : p + 5 ≡ p + 3 + 2 = omega arith in
      let e₂ : p + 8 ≡ p + 6 + 2 = omega arith in
      let e₃ : p + 11 ≡ p + 9 + 2 = omega arith in
      let n₀ = node_counts (4 * j) p (i + 4 * j + 1) a (omega arith) (b / 4 % 2) 4 r₀ (c₀ + c₁ + c₂ + c₃) t.first (omega arith) (omega arith) h₀ (rw a at s) in
      let n₁ = node_counts (4 * j + 1) (p + 3) (i + 4 * j + 1 + 1) (omega arith) (omega arith) (b / 32 % 2) 32 r₁ _ (rw e₁ at t.second) (omega arith) (omega arith) h₁ n₀ in
      let n₂ = node_counts (4 * j + 1 + 1) (p + 6) (i + 4 * j + 2 + 1) (omega arith) (omega arith) (b / 256 % 2) 256 r₂ _ (rw e₂ at t.third) (omega arith) (omega arith) h₂ n₁ in
      let n₃ = node_counts (4 * j + 1 + 1 + 1) (p + 9) (i + 4 * j + 3 + 1) (omega arith) (omega arith) (b / 2048 % 2) 2048 r₃ _ (rw e₃ at t.fourth) (omega arith) (omega arith) h₃ n₂ in
      let x : 3 * (4 * j + 1 + 1 + 1 + 1) ≡ 12 * (j + 1) = omega arith in
      let y : c₀ + c₁ + c₂ + c₃ + r₀ + r₁ + r₂ + r₃ ≡ c₀ + r₀ + (c₁ + r₁) + (c₂ + r₂) + (c₃ + r₃) = omega arith in
      rw (x, y) at n₃

-- faults that are counted more than once are counted
pub counts_any : (s r : ℕ) → Counts s r → any_of r ≡ any_of s
counts_any zero r h = let e : r ≡ 0 = omega (arith, h.most) in rw e
counts_any (suc s) r h = sym (less 0 r 5 0 (omega (arith, h.least)) refl) ∙ less 0 (suc s) 5 0 (omega arith) refl

pub counts_more : (s r t c : ℕ) → Counts s r → s + c ≡ t → Counts t (r + c)
counts_more s r t c h e = record { least = omega (arith, h.least); most = omega (arith, h.most) }
