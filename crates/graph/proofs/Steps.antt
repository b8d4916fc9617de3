-- The first fault of a table, one node or one output further on, and one that was met stays the first. From the laws on tests.
use Rattle.std.proofs.Common.{◌≡◌, ℕ, zero, suc, ◌+◌, ◌*◌, ◌/◌, ◌%◌, ◌<◌, ◌≤◌, max, List, get_or, sym, refl, ◌∙◌, ⊎_elim, add-one, arith, eq-eqb, ne_eqb}
use native.Mathlib.Decide.{le_ind}
use Rattle.graph.specs.Finite.{if_less, if_equal, first, first_of}
use Rattle.graph.specs.Graph.{Graph, mark, node, word, output, is_edge}
use Rattle.graph.specs.Admission.{word_number, output_number, lock_number, locks_number}
use Rattle.graph.proofs.Cases.{cond_not, lt_or_le}
use Rattle.graph.proofs.Tests.{less, no_less, fault, none}

pub first_assoc : (a b d : ℕ) → first (first a b) d ≡ first a (first b d)
unfolding first
first_assoc zero b d = refl
first_assoc (suc a) b d = refl

-- a fault among the first m is that of any longer stretch
pub stays : (m n : ℕ) (f : ℕ → ℕ) → (first_of m f ≡ 0 → ⊥) → m ≤ n → first_of n f ≡ first_of m f
unfolding first_of
stays m n f z h =
    le_ind (λ (i : ℕ). first_of i f ≡ first_of m f) refl
    (λ i k s. sym (fault (first_of i f) (f i) (sym s) (λ e. z (sym s ∙ e)))) n h

-- after no fault among the first j, what comes next
pub one_further : (j k : ℕ) (f : ℕ → ℕ) → first_of j f ≡ 0 → k ≡ f j → k ≡ first_of (j + 1) f
unfolding first_of
one_further j k f z e = rw (add-one j) (none _ _ z e)

-- what the three words of the node with this index come to
abbrev pub node_words : ℕ → ℕ → ℕ → ℕ → ℕ
node_words index x y z = first (if_less (x / 2) index 0 5) (first (if_less (y / 2) index 0 5) (if_equal z mark 0 (if_less (z / 2) index 0 5)))

module _ (g : Graph) where
  word_plain : (j v : ℕ) → j % 3 < 2 → j / 3 ≡ v → word_number g j ≡ if_less (word g j / 2) (node g v) 0 5
  unfolding word_number is_edge
  word_plain j v h e = simp (ne_eqb (j % 3) 2 (omega arith), e)

  word_third : (j v : ℕ) → j % 3 ≡ 2 → j / 3 ≡ v → word_number g j ≡ if_equal (word g j) mark 0 (if_less (word g j / 2) (node g v) 0 5)
  unfolding word_number is_edge if_equal
  word_third j v h e = simp (eq-eqb (j % 3) 2 h, e, cond_not)

  node_words_lem : (v : ℕ) → first (word_number g (3 * v)) (first (word_number g (3 * v + 1)) (word_number g (3 * v + 2))) ≡ node_words (node g v) (word g (3 * v)) (word g (3 * v + 1)) (word g (3 * v + 2))
  node_words_lem v =
      rw (
        word_plain (3 * v) v (omega arith) (omega arith),
        word_plain (3 * v + 1) v (omega arith) (omega arith),
        word_third (3 * v + 2) v (omega arith) (omega arith),
      )

  -- by the words that were read
  pub node_next : (v k a b d : ℕ) → first_of (3 * v) (word_number g) ≡ 0 → a ≡ word g (3 * v) → b ≡ word g (3 * v + 1) → d ≡ word g (3 * v + 2)
      → k ≡ node_words (node g v) a b d → k ≡ first_of (3 * (v + 1)) (word_number g)
  unfolding first_of first
  node_next v k a b d z p q r e =
      let s : 3 * (v + 1) ≡ suc (suc (suc (3 * v))) = omega arith in
      let s₁ : suc (3 * v) ≡ 3 * v + 1 = omega arith in
      let s₂ : suc (suc (3 * v)) ≡ 3 * v + 2 = omega arith in
      let w : ℕ → ℕ = word_number g in
      let f : k ≡ first (first (w (3 * v)) (w (suc (3 * v)))) (w (suc (suc (3 * v)))) = rw (s₂, s₁, first_assoc) (rw (p, q, r) at e ∙ sym (node_words_lem v)) in
      rw (s, z) f

  pub out_next : (j k a : ℕ) → first_of j (output_number g) ≡ 0 → a ≡ output g j → k ≡ if_less (a / 2) (node g g.N) 0 5 → k ≡ first_of (j + 1) (output_number g)
  unfolding output_number
  out_next j k a z p e = one_further j k (output_number g) z (rw p at e)

-- the locks by the greatest of their bytes: one byte further on
module _ (a b : ℕ) where
  over : {k : ℕ} → k ≡ 13 → 1 < max a b → k ≡ if_less 1 (max a b) 13 0
  over e h = less 1 (max a b) 13 0 h e

  greatest : first (if_less 1 a 13 0) (if_less 1 b 13 0) ≡ if_less 1 (max a b) 13 0
  greatest =
      ⊎_elim
      (λ (h : 1 < a). sym (fault _ _ (less 1 a 13 0 h refl) (λ z. let e : ◌≡◌ {A = ℕ} 13 (if_less 1 a 13 0) = less 1 a 13 0 h refl in omega arith)) ∙ over refl (omega arith))
      (λ (h : a ≤ 1).
      sym (none _ _ (sym (no_less 1 a 13 0 h refl)) refl) ∙
      ⊎_elim
      (λ (l : 1 < b). sym (less 1 b 13 0 l refl) ∙ over refl (omega arith))
      (λ (l : b ≤ 1). sym (no_less 1 b 13 0 l refl) ∙ no_less 1 (max a b) 13 0 (omega arith) refl)
      (lt_or_le 1 b))
      (lt_or_le 1 a)

pub lock_next : (ls : List ℕ) (v a b : ℕ) → locks_number v ls ≡ if_less 1 a 13 0 → b ≡ max a (get_or ls v 0) → locks_number (v + 1) ls ≡ if_less 1 b 13 0
unfolding locks_number first_of lock_number
lock_next ls v a b e q = rw (add-one v, e, q) (greatest a (get_or ls v 0))
