-- Substitution: where the three free variables make the byte f, an index has the bit of f that the values of the three pick.
-- By rising index.
use mathlib.Core.Path.{◌≡◌, refl, sym, ap, ◌∙◌}
use mathlib.Core.Bool.{Bool, true, false, cond, ◌&&◌, ◌||◌}
use mathlib.Core.Logic.{⊎_elim, ◌≢◌}
use mathlib.Core.List.{List, [], ◌∷◌, map}
use Prim.Native.Nat.{ℕ, zero, suc, ◌+◌, ◌*◌, ◌/◌, ◌≤◌, ◌<◌}
use native.Mathlib.Omega.{arith}
use native.Mathlib.Decide.{le_ind}
use native.Mathlib.Nat.{eq-or-lt_of_le}
use borrow.Author.Tests.{eqb-true, eqb-false}
use lib.Dec.{T, eqb}
use lib.ListN.{length, get_or, length-append, get_or-append}
use lib.Seq.{get_or_at}
use Rattle.graph.specs.Admission.{Admitted}
use Rattle.graph.specs.Finite.{if_equal}
use Rattle.graph.specs.Graph.{Graph, node, word, is_edge}
use Rattle.graph.specs.Value.{node_value, values, value}
use Rattle.graph.proofs.Cases.{true_or_false}
use Rattle.graph.proofs.Finite.{length_tab, get_d_tab}
use Rattle.graph.proofs.Fixed.{node_bit, node_same, literal_same, value_zero, value_node, value_bit}
use Rattle.graph.specs.Literals.{bit}
use Rattle.evaluation.specs.Word.{gather}
use Rattle.evaluation.proofs.Bits.{bit_zero}
use Rattle.evaluation.proofs.Gather.{bit_gather}
use Rattle.moves.proofs.Flags.{all, all3_at}
use Rattle.hidden.specs.Truth.{Triple, leak, free, leaks, node_byte, over, truth}
use Rattle.hidden.specs.Promises.{pick, TruthHolds}
use Rattle.moves.proofs.Readers.{both_true}
use Rattle.hidden.proofs.Bools.{T_true, none_true}

-- the bytes by index: their number, the old ones, the new one
module _ (g : Graph) (t : Triple) where
  length_over : (n : ℕ) → length (over g t n) ≡ g.I + 1 + n
  unfolding over
  length_over zero = omega (arith, length_tab g.I (λ k. free t (suc k) leak))
  length_over (suc n) = omega (arith, length-append (over g t n) (free t (node g n) (node_byte g (over g t n) n) ∷ []), length_over n)

  over_old : (n i : ℕ) → i < g.I + 1 + n → get_or (over g t (suc n)) i 0 ≡ get_or (over g t n) i 0
  unfolding over
  over_old n i h = get_or-append (over g t n) _ 0 i (rw (length_over n) h)

  over_new : (n : ℕ) → get_or (over g t (suc n)) (g.I + 1 + n) 0 ≡ free t (g.I + 1 + n) (node_byte g (over g t n) n)
  unfolding over
  over_new n = get_or_at (over g t n) _ [] 0 (g.I + 1 + n) (length_over n)

-- a bit of each byte of a list
pub get_d_bits : (j : ℕ) (ws : List ℕ) (i : ℕ) → get_or (map (bit j) ws) i 0 ≡ bit j (get_or ws i 0)
get_d_bits j [] i = sym (bit_zero j)
get_d_bits j (w ∷ ws) zero = refl
get_d_bits j (w ∷ ws) (suc i) = get_d_bits j ws i

-- the three variables' bytes
free_right : ℕ → ℕ → ℕ → Bool
free_right x y z = eqb (bit (pick x y z) 170) x && (eqb (bit (pick x y z) 204) y && eqb (bit (pick x y z) 240) z)

all_free : T (all 2 (λ x. all 2 (λ y. all 2 (λ z. free_right x y z))))
unfolding free_right bit
all_free = tt

variables : (x y z : ℕ) → x < 2 → y < 2 → z < 2 → (bit (pick x y z) 170 ≡ x) × (bit (pick x y z) 204 ≡ y) × (bit (pick x y z) 240 ≡ z)
unfolding free_right
variables x y z hx hy hz =
    let x₁ : Bool = eqb (bit (pick x y z) 170) x in
    let x₂ : Bool = eqb (bit (pick x y z) 204) y in
    let x₃ : Bool = eqb (bit (pick x y z) 240) z in
    let r = both_true x₁ (x₂ && x₃) (T_true _ (all3_at 2 2 2 free_right all_free x y z hx hy hz)) in
    let s = both_true x₂ x₃ r.1 in
    (eqb-true (bit (pick x y z) 170) x r.0, eqb-true (bit (pick x y z) 204) y s.0, eqb-true (bit (pick x y z) 240) z s.1)

-- no leak at a node
no_leak : (b : Bool) (x : ℕ) → cond b leak x ≢ leak → b ≡ false
no_leak true x h = absurd (h refl)
no_leak false x h = refl

-- what holds for the three words holds for each
below_three : (P : ℕ → Type 0) → P 0 → P 1 → P 2 → (k : ℕ) → k < 3 → P k
below_three P x y z zero h = x
below_three P x y z (suc zero) h = y
below_three P x y z (suc (suc zero)) h = z
below_three P x y z (suc (suc (suc k))) h = absurd (omega arith)

module _ (g : Graph) (bs : List ℕ) where
  leaks_not : (j : ℕ) → leaks g bs j ≡ false → is_edge g j ≡ true → get_or bs (word g j / 2) 0 ≢ leak
  unfolding leaks
  leaks_not j e q = eqb-false _ _ (rw q at e)

  byte_covered : (v : ℕ) → node_byte g bs v ≢ leak → (k : ℕ) → k < 3 → is_edge g (3 * v + k) ≡ true → get_or bs (word g (3 * v + k) / 2) 0 ≢ leak
  unfolding node_byte
  byte_covered v h =
      let l : ℕ → Bool = λ k. leaks g bs (3 * v + k) in
      let n = none_true (l 0 || l 1) (l 2) (no_leak (l 0 || l 1 || l 2) _ h) in
      let o = none_true (l 0) (l 1) n.0 in
      below_three (λ k. is_edge g (3 * v + k) ≡ true → get_or bs (word g (3 * v + k) / 2) 0 ≢ leak)
      (leaks_not (3 * v + 0) o.0) (leaks_not (3 * v + 1) o.1) (leaks_not (3 * v + 2) n.1)

  byte_is : (v : ℕ) → node_byte g bs v ≢ leak → node_byte g bs v ≡ gather (λ k. node_value g (map (bit k) bs) v) 8
  unfolding node_byte
  byte_is v h = rw (no_leak (leaks g bs (3 * v + 0) || leaks g bs (3 * v + 1) || leaks g bs (3 * v + 2)) _ h)

module _ (g : Graph) (adm : Admitted g) (t : Triple) (a : ℕ → ℕ) where
  m : ℕ
  m = pick (value g a t.one) (value g a t.two) (value g a t.three)

  m_below : m < 8
  unfolding m
  m_below = omega (arith, value_bit g a t.one, value_bit g a t.two, value_bit g a t.three)

  free_is : (i x : ℕ) → free t i x ≢ leak → (x ≢ leak → value g a i ≡ bit m x) → value g a i ≡ bit m (free t i x)
  unfolding free if_equal m
  free_is i x n h =
      let r = variables _ _ _ (value_bit g a t.one) (value_bit g a t.two) (value_bit g a t.three) in
      ⊎_elim
      (λ (e : eqb i t.one ≡ true). rw e (ap (value g a) (eqb-true i t.one e) ∙ sym r.0))
      (λ (e : eqb i t.one ≡ false).
      ⊎_elim
      (λ (d : eqb i t.two ≡ true). rw (e, d) (ap (value g a) (eqb-true i t.two d) ∙ sym r.1))
      (λ (d : eqb i t.two ≡ false).
      ⊎_elim
      (λ (c : eqb i t.three ≡ true). rw (e, d, c) (ap (value g a) (eqb-true i t.three c) ∙ sym r.2))
      (λ (c : eqb i t.three ≡ false). rw (e, d, c) (h (rw (e, d, c) at n)))
      (true_or_false (eqb i t.three)))
      (true_or_false (eqb i t.two)))
      (true_or_false (eqb i t.one))

  node_is : (bs : List ℕ) (v : ℕ) → v < g.N
      → ((i : ℕ) → i < g.I + 1 + v → get_or bs i 0 ≢ leak → value g a i ≡ bit m (get_or bs i 0))
      → node_byte g bs v ≢ leak → value g a (g.I + 1 + v) ≡ bit m (node_byte g bs v)
  unfolding value
  node_is bs v h ih n =
      rw (byte_is g bs v n, bit_gather (λ k. node_value g (map (bit k) bs) v) (λ k. node_bit g (map (bit k) bs) v) 8 m m_below)
      (value_node g a adm v h ∙ node_same g g (values g a g.N) (map (bit m) bs) v v refl
      (λ k l e.
      literal_same _ _ _
      (ih (word g (3 * v + k) / 2) (omega (arith, adm.below (3 * v + k) (omega arith) e)) (byte_covered g bs v n k l e)
      ∙ sym (get_d_bits m bs (word g (3 * v + k) / 2)))))

  over_is : (n : ℕ) → n ≤ g.N → (i : ℕ) → i < g.I + 1 + n → get_or (over g t n) i 0 ≢ leak → value g a i ≡ bit m (get_or (over g t n) i 0)
  unfolding over
  over_is zero l zero h c = value_zero g a ∙ sym (bit_zero m)
  over_is zero l (suc i) h c =
      let e = get_d_tab g.I (λ k. free t (suc k) leak) i (omega arith) in
      rw e (free_is (suc i) leak (rw e at c) (λ x. absurd (x refl)))
  over_is (suc n) l i h c =
      ⊎_elim
      (λ (q : i ≡ g.I + 1 + n).
      rw (q, over_new g t n) (free_is (g.I + 1 + n) (node_byte g (over g t n) n) (rw (q, over_new g t n) at c) (node_is (over g t n) n (omega arith) (over_is n (omega arith)))))
      (λ (k : i < g.I + 1 + n). rw (over_old g t n i k) (over_is n (omega arith) i k (rw (over_old g t n i k) at c)))
      (eq-or-lt_of_le (omega arith))

pub truth_holds : (g : Graph) → Admitted g → (t : Triple) (i : ℕ) → TruthHolds g t i
unfolding truth m
truth_holds g adm t i h c a = over_is g adm t a g.N (omega arith) i h c

-- a truth value from those of the indices below
module _ (g : Graph) (t : Triple) where
  pub truth_at : (n : ℕ) → n ≤ g.N → (i : ℕ) → i < g.I + 1 + n → truth g t i ≡ get_or (over g t n) i 0
  unfolding truth
  truth_at n h i l = le_ind (λ (m : ℕ). get_or (over g t m) i 0 ≡ get_or (over g t n) i 0) refl (λ m (k : n ≤ m) s. over_old g t m i (omega arith) ∙ s) g.N h

  pub truth_zero : truth g t 0 ≡ 0
  unfolding over
  truth_zero = truth_at 0 (omega arith) 0 (omega arith)

  pub truth_input : (k : ℕ) → k < g.I → truth g t (suc k) ≡ free t (suc k) leak
  unfolding over
  truth_input k h = truth_at 0 (omega arith) (suc k) (omega arith) ∙ get_d_tab g.I (λ j. free t (suc j) leak) k h

  pub truth_node : (v : ℕ) → v < g.N → truth g t (g.I + 1 + v) ≡ free t (g.I + 1 + v) (node_byte g (over g t v) v)
  truth_node v h = truth_at (suc v) h (g.I + 1 + v) (omega arith) ∙ over_new g t v
