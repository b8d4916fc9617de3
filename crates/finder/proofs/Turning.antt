-- An XOR turns, under every assignment, with the higher of two different indices that it names: the lower does not see that variable. A majority does not, by a test over
-- all bytes; so none is found at an XOR with a triple that has the higher. From the laws on truth values.
use mathlib.Core.Path.{◌≡◌, refl, sym, ap, ◌∙◌}
use mathlib.Core.Bool.{Bool, true, false, true≢false, not, ◌&&◌, ◌||◌}
use mathlib.Core.Logic.{⊎_elim, ◌≢◌, ◌⊎◌, inl, inr}
use mathlib.Core.List.{List, map}
use Prim.Native.Nat.{ℕ, zero, suc, ◌+◌, ◌-◌, ◌*◌, ◌/◌, ◌%◌, ◌^◌, ◌≤◌, ◌<◌}
use native.Mathlib.Omega.{arith}
use borrow.Author.Tests.{ne_eqb, ltb-true}
use lib.Bits.{bit_xor}
use lib.Dec.{T, eqb, ltb, eqb→eq}
use lib.ListN.{get_or}
use Rattle.graph.specs.Admission.{Admitted}
use Rattle.graph.specs.Finite.{if_equal}
use Rattle.graph.specs.Graph.{Graph, mark, node, word, is_edge, is_xor}
use Rattle.graph.specs.Inner.{Names}
use Rattle.graph.specs.Literals.{bit}
use Rattle.graph.specs.Value.{literal_value, exclusive, node_value}
use Rattle.graph.proofs.Cases.{eq_or_ne, lt_or_le, true_or_false}
use Rattle.graph.proofs.Edge.{edge_early, third_majority}
use Rattle.graph.proofs.Fixed.{node_bit}
use Rattle.evaluation.proofs.Bits.{bit_zero}
use Rattle.evaluation.proofs.Gather.{gather_lt, bit_gather}
use Rattle.moves.proofs.Flags.{all, all_at}
use Rattle.hidden.specs.Truth.{Triple, leak, free, leaks, node_byte, over, truth}
use Rattle.hidden.specs.Class.{classes}
use Rattle.hidden.specs.Majority.{is_majority}
use Rattle.hidden.specs.Inner.{Rising}
use Rattle.hidden.proofs.Bools.{T_true, true_both}
use Rattle.hidden.proofs.Bytes.{free_apart}
use Rattle.hidden.proofs.Over.{get_d_bits, truth_at, truth_zero, truth_input, truth_node}
use Rattle.hidden.proofs.Ways.{variable}
use Rattle.finder.specs.Meeting.{Higher}
use Rattle.finder.proofs.Barring.{In, free_one, free_two, free_three, at_index}
use Rattle.finder.proofs.Named.{first_named, second_named}
use Rattle.finder.proofs.Trials.{no_leak}

-- the assignment with variable m turned
other : ℕ → ℕ → ℕ
other m k = bit_xor k (2 ^ m)

abbrev Still : ℕ → ℕ → Type 0
Still m b = (k : ℕ) → k < 8 → bit (other m k) b ≡ bit k b

-- tests
still : ℕ → ℕ → Bool
still m b = all 8 (λ k. eqb (bit (other m k) b) (bit k b))

still_by : (m b : ℕ) → T (still m b) → Still m b
unfolding still
still_by m b t k h = eqb→eq (bit (other m k) b) (bit k b) (all_at 8 (λ k. eqb (bit (other m k) b) (bit k b)) t k h)

leaks_still : T (all 3 (λ m. still m leak))
unfolding still other bit
leaks_still = tt

still_leak : (m : ℕ) → m < 3 → Still m leak
still_leak m h = still_by m leak (all_at 3 (λ m. still m leak) leaks_still m h)

second_still : T (still 1 (variable 0))
unfolding still other bit variable if_equal
second_still = tt

first_still : T (still 2 (variable 0))
unfolding still other bit variable if_equal
first_still = tt

third_still : T (still 2 (variable 1))
unfolding still other bit variable if_equal
third_still = tt

lows : T (all 3 (λ m. all 8 (λ k. ltb (other m k) 8)))
unfolding other
lows = tt

variable_turns : T (all 3 (λ m. all 8 (λ k. eqb (bit (other m k) (variable m) + bit k (variable m)) 1)))
unfolding other bit variable if_equal
variable_turns = tt

turning : ℕ → ℕ → Bool
turning m b = all 8 (λ k. not (eqb (bit (other m k) b) (bit k b)))

none_turns : T (all 256 (λ r. all 3 (λ m. not (is_majority r && turning m r))))
unfolding turning other bit is_majority classes
none_turns = tt

other_low : (m k : ℕ) → m < 3 → k < 8 → other m k < 8
other_low m k h l = ltb-true (other m k) 8 (T_true (ltb (other m k) 8) (all_at 8 (λ k. ltb (other m k) 8) (all_at 3 (λ m. all 8 (λ k. ltb (other m k) 8)) lows m h) k l))

turned : (m k : ℕ) → m < 3 → k < 8 → bit (other m k) (variable m) + bit k (variable m) ≡ 1
turned m k h l =
    eqb→eq (bit (other m k) (variable m) + bit k (variable m)) 1
    (all_at 8 (λ k. eqb (bit (other m k) (variable m) + bit k (variable m)) 1) (all_at 3 (λ m. all 8 (λ k. eqb (bit (other m k) (variable m) + bit k (variable m)) 1)) variable_turns m h) k l)

all_of : (n : ℕ) (p : ℕ → Bool) → ((k : ℕ) → k < n → p k ≡ true) → all n p ≡ true
all_of zero p f = refl
all_of (suc n) p f = true_both (p n) (all n p) (f n (omega arith)) (all_of n p (λ k h. f k (omega arith)))

-- a byte that turns with a variable under every assignment
turns_none : (m b : ℕ) → m < 3 → b < 256 → ((k : ℕ) → k < 8 → bit (other m k) b ≢ bit k b) → is_majority b ≡ false
unfolding turning
turns_none m b h l f =
    let t : turning m b ≡ true = all_of 8 (λ k. not (eqb (bit (other m k) b) (bit k b))) (λ k q. ap not (ne_eqb (bit (other m k) b) (bit k b) (f k q))) in
    let n : not (is_majority b && turning m b) ≡ true = T_true (not (is_majority b && turning m b)) (all_at 3 (λ m. not (is_majority b && turning m b)) (all_at 256 (λ r. all 3 (λ m. not (is_majority r && turning m r))) none_turns b l) m h) in
    first_false (is_majority b) (turning m b) t n
  where
    first_false : (p q : Bool) → q ≡ true → not (p && q) ≡ true → p ≡ false
    first_false false q e n = refl
    first_false true true e n = absurd (true≢false (sym n))
    first_false true false e n = absurd (true≢false (sym e))

-- the value of a node goes by those that it names
node_same : (g : Graph) (v : ℕ) (vs ws : List ℕ) → ((k : ℕ) → k < 3 → is_edge g (3 * v + k) ≡ true → get_or vs (word g (3 * v + k) / 2) 0 ≡ get_or ws (word g (3 * v + k) / 2) 0) → node_value g vs v ≡ node_value g ws v
unfolding node_value literal_value
node_same g v vs ws f =
    let x = f 0 (omega arith) (edge_early g (3 * v + 0) (λ e. omega arith)) in
    let y = f 1 (omega arith) (edge_early g (3 * v + 1) (λ e. omega arith)) in
    ⊎_elim
    (λ (e : is_xor g v ≡ true). rw (e, x, y))
    (λ (e : is_xor g v ≡ false). rw (e, x, y, f 2 (omega arith) (third_majority g v e)))
    (true_or_false (is_xor g v))

module _ (g : Graph) (adm : Admitted g) (t : Triple) where
  abbrev leaky : ℕ → Bool
  leaky v = leaks g (over g t v) (3 * v + 0) || leaks g (over g t v) (3 * v + 1) || leaks g (over g t v) (3 * v + 2)

  node_leak : (v : ℕ) → leaky v ≡ true → node_byte g (over g t v) v ≡ leak
  unfolding node_byte
  node_leak v e = rw e

  -- a byte that is no leak has the values as its bits
  node_bits : (v k : ℕ) → k < 8 → leaky v ≡ false
      → bit k (node_byte g (over g t v) v) ≡ node_value g (map (bit k) (over g t v)) v
  unfolding node_byte
  node_bits v k h e = rw e (bit_gather (λ k. node_value g (map (bit k) (over g t v)) v) (λ k. node_bit g (map (bit k) (over g t v)) v) 8 k h)

  node_low : (v : ℕ) → leaky v ≡ false → node_byte g (over g t v) v < 256
  unfolding node_byte
  node_low v e = rw e (gather_lt (λ k. node_value g (map (bit k) (over g t v)) v) (λ k. node_bit g (map (bit k) (over g t v)) v) 8)

  seen : (v i k : ℕ) → v < g.N → i < node g v → get_or (map (bit k) (over g t v)) i 0 ≡ bit k (truth g t i)
  seen v i k h l = get_d_bits k (over g t v) i ∙ ap (bit k) (sym (truth_at g t v (omega arith) i (omega arith)))

  -- what is below index j does not see its variable
  module _ (m j : ℕ) (few : m < 3) (apart : (i x : ℕ) → i < j → Still m x → Still m (free t i x)) where
    still_node : (v : ℕ) → v < g.N → ((i : ℕ) → i < node g v → Still m (truth g t i)) → Still m (node_byte g (over g t v) v)
    still_node v h f k l =
        ⊎_elim
        (λ (e : leaky v ≡ true). rw (node_leak v e) (still_leak m few k l))
        (λ (e : leaky v ≡ false).
        node_bits v (other m k) (other_low m k few l) e
        ∙ node_same g v (map (bit (other m k)) (over g t v)) (map (bit k) (over g t v))
        (λ p q z.
        let i : ℕ = word g (3 * v + p) / 2 in
        let b : i < node g v = omega (arith, adm.below (3 * v + p) (omega arith) z) in
        seen v i (other m k) h b ∙ f i b k l ∙ sym (seen v i k h b))
        ∙ sym (node_bits v k l e))
        (true_or_false (leaky v))

    still_below : (b i : ℕ) → i < b → i < j → i < node g g.N → Still m (truth g t i)
    still_below zero i l h n = absurd (omega arith)
    still_below (suc b) zero l h n = λ k q. rw (truth_zero g t) (bit_zero (other m k) ∙ sym (bit_zero k))
    still_below (suc b) (suc i) l h n =
        ⊎_elim
        (λ (p : i < g.I). rw (truth_input g t i p) (apart (suc i) leak h (still_leak m few)))
        (λ (p : g.I ≤ i).
        let v : ℕ = i - g.I in
        let e : suc i ≡ node g v = omega arith in
        rw (e, truth_node g t v (omega arith)) (apart (node g v) (node_byte g (over g t v) v) (omega arith) (still_node v (omega arith) (λ u z. still_below b u (omega arith) (omega arith) (omega arith)))))
        (lt_or_le i g.I)

-- an XOR whose words' bytes turn together
module _ (g : Graph) (adm : Admitted g) (t : Triple) (v : ℕ) (within : v < g.N) (xor : is_xor g v ≡ true) (r : Rising t (node g v)) where
  byte : truth g t (node g v) ≡ node_byte g (over g t v) v
  byte =
      truth_node g t v within
      ∙ free_apart t (node g v) (node_byte g (over g t v) v) (λ e. omega (arith, r.second, r.third, r.below)) (λ e. omega (arith, r.third, r.below)) (λ e. omega (arith, r.below))

  low : (k : ℕ) → k < 2 → word g (3 * v + k) / 2 < node g v
  low k h = omega (arith, adm.below (3 * v + k) (omega arith) (edge_early g (3 * v + k) (λ e. omega arith)))

  of_both : (k : ℕ) → node_value g (map (bit k) (over g t v)) v ≡ (bit k (truth g t (word g (3 * v + 0) / 2)) + bit k (truth g t (word g (3 * v + 1) / 2)) + (word g (3 * v + 0) + word g (3 * v + 1)) % 2) % 2
  unfolding node_value exclusive literal_value
  of_both k = rw (xor, seen g adm t v (word g (3 * v + 0) / 2) k within (low 0 (omega arith)), seen g adm t v (word g (3 * v + 1) / 2) k within (low 1 (omega arith))) (omega arith)

  turns_passed : (m : ℕ) → m < 3
      → ((k : ℕ) → k < 8 → (bit (other m k) (truth g t (word g (3 * v + 0) / 2)) + bit (other m k) (truth g t (word g (3 * v + 1) / 2)) + bit k (truth g t (word g (3 * v + 0) / 2)) + bit k (truth g t (word g (3 * v + 1) / 2))) % 2 ≡ 1)
      → is_majority (truth g t (node g v)) ≡ false
  turns_passed m h f =
      ⊎_elim (λ (e : leaky g adm t v ≡ true). ap is_majority (byte ∙ node_leak g adm t v e) ∙ no_leak)
      (λ (e : leaky g adm t v ≡ false).
      ap is_majority byte
      ∙ turns_none m (node_byte g (over g t v) v) h (node_low g adm t v e)
      (λ k l z.
      let p : node_value g (map (bit (other m k)) (over g t v)) v ≡ node_value g (map (bit k) (over g t v)) v = sym (node_bits g adm t v (other m k) (other_low m k h l) e) ∙ z ∙ node_bits g adm t v k l e in
      omega (arith, f k l, p, of_both k, of_both (other m k))))
      (true_or_false (leaky g adm t v))

  -- the higher of its two indices is in the triple
  module _ (i j : ℕ) (h : i < j) (both : ((i ≡ word g (3 * v + 0) / 2) × (j ≡ word g (3 * v + 1) / 2)) ⊎ ((j ≡ word g (3 * v + 0) / 2) × (i ≡ word g (3 * v + 1) / 2))) where
    below : i < node g g.N
    below = ⊎_elim (λ q. omega (arith, q.0, low 0 (omega arith))) (λ q. omega (arith, q.1, low 1 (omega arith))) both

    turning_passed : (m : ℕ) → m < 3 → truth g t j ≡ variable m → ((u x : ℕ) → u < j → Still m x → Still m (free t u x)) → is_majority (truth g t (node g v)) ≡ false
    turning_passed m l e apart =
        let s = still_below g adm t m j l apart (suc i) i (omega arith) h below in
        let y : (k : ℕ) → k < 8 → bit (other m k) (truth g t j) + bit k (truth g t j) ≡ 1 = λ k q. rw e (turned m k l q) in
        turns_passed m l
        (λ k q. ⊎_elim
        (λ z. rw (← z.0, ← z.1) (omega (arith, s k q, y k q)))
        (λ z. rw (← z.0, ← z.1) (omega (arith, s k q, y k q)))
        both)

    in_turning : In t j → is_majority (truth g t (node g v)) ≡ false
    in_turning s =
        ⊎_elim
        (λ (e : j ≡ t.one).
        turning_passed 0 (omega arith) (z.1 ∙ free_one t j z.0 e)
        (λ u x b f. rw (free_apart t u x (λ q. omega arith) (λ q. omega (arith, r.second)) (λ q. omega (arith, r.second, r.third))) f))
        (λ (d : (j ≡ t.two) ⊎ (j ≡ t.three)).
        ⊎_elim
        (λ (e : j ≡ t.two).
        turning_passed 1 (omega arith) (z.1 ∙ free_two t j z.0 (λ q. omega (arith, r.second)) e)
        (λ u x b f.
        ⊎_elim (λ (q : u ≡ t.one). rw (free_one t u x q) (still_by 1 (variable 0) second_still))
        (λ (n : u ≢ t.one). rw (free_apart t u x n (λ q. omega arith) (λ q. omega (arith, r.third))) f)
        (eq_or_ne u t.one)))
        (λ (e : j ≡ t.three).
        turning_passed 2 (omega arith) (z.1 ∙ free_three t j z.0 (λ q. omega (arith, r.second, r.third)) (λ q. omega (arith, r.third)) e)
        (λ u x b f.
        ⊎_elim (λ (q : u ≡ t.one). rw (free_one t u x q) (still_by 2 (variable 0) first_still))
        (λ (n : u ≢ t.one).
        ⊎_elim (λ (q : u ≡ t.two). rw (free_two t u x n q) (still_by 2 (variable 1) third_still)) (λ (k : u ≢ t.two). rw (free_apart t u x n k (λ q. omega arith)) f) (eq_or_ne u t.two))
        (eq_or_ne u t.one)))
        d)
        s
      where
        z : (x : ℕ) × (truth g t j ≡ free t j x)
        z = at_index g t j (omega arith) (⊎_elim (λ q. omega (arith, q.1, low 1 (omega arith))) (λ q. omega (arith, q.0, low 0 (omega arith))) both)

-- by what is read of its words
pub higher_in : (g : Graph) (adm : Admitted g) (v : ℕ) → v < g.N → eqb (word g (3 * v + 2)) mark ≡ true → (x : ℕ) → Names (word g (3 * v)) x → (y : ℕ) → Names (word g (3 * v + 1)) y → (r : ℕ) → Higher x y r
    → (t : Triple) → Rising t (node g v) → In t r → is_majority (truth g t (node g v)) ≡ false
unfolding is_xor
higher_in g adm v within xor x nx y ny r h t rise s =
    let e : 3 * v + 0 ≡ 3 * v = omega arith in
    let a : x ≡ word g (3 * v + 0) / 2 = rw e (first_named g adm v x within nx).0 in
    let b : y ≡ word g (3 * v + 1) / 2 = (second_named g adm v y within ny).0 in
    ⊎_elim
    (λ (q : r ≡ 0).
    absurd (⊎_elim (λ (z : r ≡ t.one). omega (arith, rise.positive)) (λ z. ⊎_elim (λ (k : r ≡ t.two). omega (arith, rise.positive, rise.second)) (λ (k : r ≡ t.three). omega (arith, rise.positive, rise.second, rise.third)) z) s))
    (λ q.
    ⊎_elim (λ (z : (r ≡ y) × (x < y)). in_turning g adm t v within xor rise x y z.1 (inl (a, b)) (rw (← z.0) s))
    (λ (z : (r ≡ x) × (y < x)). in_turning g adm t v within xor rise y x z.1 (inr (a, b)) (rw (← z.0) s))
    q)
    h
