-- An index leaks just where a way down from it to an input misses the triple, so that a triple over which it has a byte meets every way. What
-- lets a finder pass triples over without valuing a cone. From the laws on bytes.
use mathlib.Core.Path.{◌≡◌, refl, sym, ap, ◌∙◌}
use mathlib.Core.Bool.{Bool, true, false, cond, not, ◌&&◌, ◌||◌}
use mathlib.Core.Logic.{⊎_elim, ◌≢◌}
use mathlib.Core.List.{List, [], ◌∷◌}
use Prim.Native.Nat.{ℕ, zero, suc, ◌+◌, ◌-◌, ◌*◌, ◌/◌, ◌%◌, ◌≤◌, ◌<◌}
use native.Mathlib.Omega.{arith}
use borrow.Author.Tests.{not-true, eq-eqb, ne_eqb, eqb-true}
use lib.Bits.{bit_and, bit_or, bit_xor}
use lib.Dec.{T, eqb}
use lib.ListN.{get_or}
use Rattle.graph.specs.Admission.{Admitted}
use Rattle.graph.specs.Graph.{Graph, node, word, is_edge, is_xor}
use Rattle.graph.specs.Finite.{if_equal}
use Rattle.graph.proofs.Cases.{eq_or_ne, lt_or_le}
use Rattle.graph.proofs.Edge.{edge_early, third_majority}
use Rattle.moves.proofs.Flags.{all, all_at, all3_at}
use Rattle.hidden.specs.Ways.{Misses, Reads, Way, AllMiss, MissedWay}
use Rattle.hidden.specs.Promises.{NotCovered}
use Rattle.hidden.specs.Truth.{Triple, leak, free, leaks, node_byte, over, truth}
use Rattle.hidden.specs.Class.{classes}
use Rattle.hidden.specs.Majority.{is_majority}
use Rattle.moves.proofs.Readers.{both_true}
use Rattle.hidden.proofs.Bools.{T_true, either_true}
use Rattle.hidden.proofs.Over.{truth_at, truth_zero, truth_input, truth_node}
use Rattle.hidden.proofs.Bytes.{turned_lt, byte_of, majority_byte_lem, leak_byte, free_apart, truth_le, leak_by}

-- a byte that leaks though the three are free: the index is none of them, and leaks by itself
record Leaks (t : Triple) (i x : ℕ) : Type 0 where
  misses : Misses t i
  byte : x ≡ leak

free_leaks : (t : Triple) (i x : ℕ) → free t i x ≡ leak → Leaks t i x
unfolding free if_equal
free_leaks t i x e =
    ⊎_elim
    (λ (p : i ≡ t.one). let z : ◌≡◌ {A = ℕ} 170 leak = rw (eq-eqb i t.one p) at e in absurd (omega arith))
    (λ (p : i ≢ t.one).
    ⊎_elim
    (λ (q : i ≡ t.two). let z : ◌≡◌ {A = ℕ} 204 leak = rw (ne_eqb i t.one p, eq-eqb i t.two q) at e in absurd (omega arith))
    (λ (q : i ≢ t.two).
    ⊎_elim
    (λ (r : i ≡ t.three). let z : ◌≡◌ {A = ℕ} 240 leak = rw (ne_eqb i t.one p, ne_eqb i t.two q, eq-eqb i t.three r) at e in absurd (omega arith))
    (λ (r : i ≢ t.three).
    record { misses = record { one = p; two = q; three = r }; byte = rw (ne_eqb i t.one p, ne_eqb i t.two q, ne_eqb i t.three r) at e })
    (eq_or_ne i t.three))
    (eq_or_ne i t.two))
    (eq_or_ne i t.one)

-- a word by which a node's byte leaks
record LeakyWord (g : Graph) (bs : List ℕ) (v : ℕ) : Type 0 where
  k : ℕ
  low : k < 3
  edge : is_edge g (3 * v + k) ≡ true
  leaks : get_or bs (word g (3 * v + k) / 2) 0 ≡ leak

leaky : (g : Graph) (bs : List ℕ) (v k : ℕ) → k < 3 → leaks g bs (3 * v + k) ≡ true → LeakyWord g bs v
unfolding leaks
leaky g bs v k h e =
    let b = both_true (is_edge g (3 * v + k)) (eqb (get_or bs (word g (3 * v + k) / 2) 0) leak) e in
    record { k = k; low = h; edge = b.0; leaks = eqb-true (get_or bs (word g (3 * v + k) / 2) 0) leak b.1 }

byte_leaks : (g : Graph) (bs : List ℕ) (v : ℕ) → node_byte g bs v ≡ leak → LeakyWord g bs v
byte_leaks g bs v e =
    let l : ℕ → Bool = λ k. leaks g bs (3 * v + k) in
    ⊎_elim
    (λ (p : (l 0 || l 1) ≡ true).
    ⊎_elim (λ (q : l 0 ≡ true). leaky g bs v 0 (omega arith) q) (λ (q : l 1 ≡ true). leaky g bs v 1 (omega arith) q) (either_true (l 0) (l 1) p))
    (λ (p : l 2 ≡ true). leaky g bs v 2 (omega arith) p)
    (either_true (l 0 || l 1) (l 2) (leak_by g bs v e))

-- a leak is no majority
leak_none : is_majority leak ≡ false
unfolding is_majority classes
leak_none = refl

module _ (g : Graph) (adm : Admitted g) (t : Triple) where
  input_leaks : (i : ℕ) → 0 < i → i ≤ g.I → Misses t i → truth g t i ≡ leak
  input_leaks zero p h m = absurd (omega arith)
  input_leaks (suc k) p h m = truth_input g t k (omega arith) ∙ free_apart t (suc k) leak m.one m.two m.three

  pub reader_leaks : (i j : ℕ) → Reads g i j → Misses t i → truth g t j ≡ leak → truth g t i ≡ leak
  reader_leaks i j r m e =
      let v : ℕ = r.v in
      let b : j < node g v = omega (arith, r.names, r.word_of, r.within, adm.below (3 * v + r.k) (omega (arith, r.word_of, r.within)) r.edge) in
      let n : Misses t (node g v) = rw (← r.is) m in
      let x : get_or (over g t v) (word g (3 * v + r.k) / 2) 0 ≡ leak = rw r.names (sym (truth_at g t v (omega (arith, r.within)) j b) ∙ e) in
      rw r.is
      (truth_node g t v r.within ∙ free_apart t (node g v) (node_byte g (over g t v) v) n.one n.two n.three ∙ leak_byte g (over g t v) v r.k r.word_of r.edge x)

  -- a way that misses the triple leaks
  pub way_leaks : (i : ℕ) (ps : List ℕ) → Way g i ps → AllMiss t i ps → truth g t i ≡ leak
  way_leaks i [] w m = input_leaks i w.0 w.1 m
  way_leaks i (j ∷ ps) w m = reader_leaks i j w.0 m.0 (way_leaks j ps w.1 m.1)

  -- and where an index leaks there is such a way: by rising index
  missed_below : (b i : ℕ) → i < b → i < node g g.N → truth g t i ≡ leak → MissedWay g t i
  missed_below zero i l h e = absurd (omega arith)
  missed_below (suc b) zero l h e = absurd (omega (arith, e, truth_zero g t))
  missed_below (suc b) (suc k) l h e =
      ⊎_elim
      (λ (p : k < g.I).
      record { over = []; way = (omega arith, omega arith); misses = (free_leaks t (suc k) leak (sym (truth_input g t k p) ∙ e)).misses })
      (λ (p : g.I ≤ k).
      let v : ℕ = k - g.I in
      let q : suc k ≡ node g v = omega arith in
      let f = free_leaks t (node g v) (node_byte g (over g t v) v) (sym (truth_node g t v (omega arith)) ∙ ap (truth g t) (sym q) ∙ e) in
      let w = byte_leaks g (over g t v) v f.byte in
      let j : ℕ = word g (3 * v + w.k) / 2 in
      let below : j < node g v = omega (arith, w.low, adm.below (3 * v + w.k) (omega (arith, w.low)) w.edge) in
      let m = missed_below b j (omega arith) (omega arith) (truth_at g t v (omega arith) j below ∙ w.leaks) in
      record {
        over = j ∷ m.over;
        way = (record { v = v; within = omega arith; is = q; k = w.k; word_of = w.low; edge = w.edge; names = refl }, m.way);
        misses = (rw q f.misses, m.misses);
      })
      (lt_or_le k g.I)

  reads_below : (i j : ℕ) → Reads g i j → j < i
  reads_below i j r = omega (arith, r.is, r.names, r.word_of, r.within, adm.below (3 * r.v + r.k) (omega (arith, r.word_of, r.within)) r.edge)

  -- an index below the triple from which a way leads down
  low_misses : (i : ℕ) (ps : List ℕ) → Way g i ps → i < t.one → t.one < t.two → t.two < t.three → AllMiss t i ps
  low_misses i [] w h p q = record { one = λ e. omega arith; two = λ e. omega arith; three = λ e. omega arith }
  low_misses i (j ∷ ps) w h p q =
      (record { one = λ e. omega arith; two = λ e. omega arith; three = λ e. omega arith }, low_misses j ps w.1 (omega (arith, reads_below i j w.0)) p q)

  pub low_leaks : (i : ℕ) (ps : List ℕ) → Way g i ps → i < t.one → t.one < t.two → t.two < t.three → truth g t i ≡ leak
  low_leaks i ps w h p q = way_leaks i ps w (low_misses i ps w h p q)

  pub way_passed : (i : ℕ) (ps : List ℕ) → Way g i ps → AllMiss t i ps → is_majority (truth g t i) ≡ false
  way_passed i ps w m = ap is_majority (way_leaks i ps w m) ∙ leak_none

-- the majority of a constant, a variable and anything else is of another class: by a computed test
voted : ℕ → ℕ → ℕ → ℕ
voted p q r = bit_or (bit_or (bit_and p q) (bit_and p r)) (bit_and q r)

unfoldable pub variable : ℕ → ℕ
variable i = if_equal i 0 170 (if_equal i 1 204 240)

right : ℕ → ℕ → ℕ → ℕ → Bool
right r b i m = not (is_majority (voted (b * 255) (bit_xor (variable i) (m * 255)) r)) && not (is_majority (voted (b * 255) r (bit_xor (variable i) (m * 255))))

all_right : T (all 256 (λ r. all 2 (λ b. all 3 (λ i. all 2 (λ m. right r b i m)))))
unfolding right voted variable is_majority classes if_equal
all_right = tt

never : (r b i m : ℕ) → r < 256 → b < 2 → i < 3 → m < 2
    → (is_majority (voted (b * 255) (bit_xor (variable i) (m * 255)) r) ≡ false) × (is_majority (voted (b * 255) r (bit_xor (variable i) (m * 255))) ≡ false)
unfolding right
never r b i m hr hb hi hm =
    let t = all3_at 2 3 2 (right r) (all_at 256 (λ r. all 2 (λ b. all 3 (λ i. all 2 (λ m. right r b i m)))) all_right r hr) b i m hb hi hm in
    let x : Bool = is_majority (voted (b * 255) (bit_xor (variable i) (m * 255)) r) in
    let y : Bool = is_majority (voted (b * 255) r (bit_xor (variable i) (m * 255))) in
    let a = both_true (not x) (not y) (T_true (not x && not y) t) in
    (not-true x a.0, not-true y a.1)

variable_low : (i : ℕ) → variable i < 256
unfolding variable if_equal
variable_low i = cond_lt (eqb i 0) 170 _ (omega arith) (cond_lt (eqb i 1) 204 240 (omega arith) (omega arith))
  where
    cond_lt : (b : Bool) (x y : ℕ) → x < 256 → y < 256 → cond b x y < 256
    cond_lt true x y h k = h
    cond_lt false x y h k = k

-- so a node whose first word names the constant is passed over with each triple that has an index which another of its words names
module _ (g : Graph) (adm : Admitted g) (t : Triple) (v : ℕ) (within : v < g.N) (misses : Misses t (node g v)) (maj : is_xor g v ≡ false) (first : word g (3 * v + 0) / 2 ≡ 0) where
  abbrev bs : List ℕ
  bs = over g t v

  byte : truth g t (node g v) ≡ node_byte g (over g t v) v
  byte = truth_node g t v within ∙ free_apart t (node g v) (node_byte g (over g t v) v) misses.one misses.two misses.three

  at : (k : ℕ) → k < 3 → is_edge g (3 * v + k) ≡ true → get_or (over g t v) (word g (3 * v + k) / 2) 0 ≡ truth g t (word g (3 * v + k) / 2)
  at k h e = sym (truth_at g t v (omega arith) (word g (3 * v + k) / 2) (omega (arith, adm.below (3 * v + k) (omega arith) e)))

  e₁ : is_edge g (3 * v + 1) ≡ true
  e₁ = edge_early g (3 * v + 1) (omega arith)

  e₂ : is_edge g (3 * v + 2) ≡ true
  e₂ = third_majority g v maj

  zeroth : get_or (over g t v) (word g (3 * v + 0) / 2) 0 ≡ 0
  zeroth = rw first (sym (truth_at g t v (omega arith) 0 (omega arith)) ∙ truth_zero g t)

  constant : byte_of g (over g t v) v 0 ≡ word g (3 * v + 0) % 2 * 255
  unfolding byte_of
  constant = rw zeroth (zero_turned (word g (3 * v + 0) % 2) (omega arith))
    where
      zero_turned : (b : ℕ) → b < 2 → bit_xor 0 (b * 255) ≡ b * 255
      zero_turned zero h = refl
      zero_turned (suc zero) h = refl
      zero_turned (suc (suc b)) h = absurd (omega arith)

  three : get_or (over g t v) (word g (3 * v + 0) / 2) 0 < 256 → get_or (over g t v) (word g (3 * v + 1) / 2) 0 < 256 → get_or (over g t v) (word g (3 * v + 2) / 2) 0 < 256
      → (k : ℕ) → k < 3 → get_or (over g t v) (word g (3 * v + k) / 2) 0 < 256
  three x y z zero h = x
  three x y z (suc zero) h = y
  three x y z (suc (suc zero)) h = z
  three x y z (suc (suc (suc k))) h = absurd (omega arith)

  -- with a variable at the second word, and at the third
  pub second_passed : (i : ℕ) → i < 3 → truth g t (word g (3 * v + 1) / 2) ≡ variable i → is_majority (truth g t (node g v)) ≡ false
  unfolding voted byte_of
  second_passed i h e =
      let y : get_or (over g t v) (word g (3 * v + 1) / 2) 0 ≡ variable i = at 1 (omega arith) e₁ ∙ e in
      let l = variable_low i in
      ⊎_elim
      (λ (q : truth g t (word g (3 * v + 2) / 2) ≡ leak). ap is_majority (byte ∙ leak_byte g bs v 2 (omega arith) e₂ (at 2 (omega arith) e₂ ∙ q)) ∙ leak_none)
      (λ (n : truth g t (word g (3 * v + 2) / 2) ≢ leak).
      let z = at 2 (omega arith) e₂ in
      let low : get_or (over g t v) (word g (3 * v + 2) / 2) 0 < 256 = omega (arith, z, n, truth_le g t (word g (3 * v + 2) / 2) (omega (arith, adm.below (3 * v + 2) (omega arith) e₂))) in
      let r : ℕ = byte_of g bs v 2 in
      let rl : r < 256 = turned_lt _ _ low (omega arith) in
      ap is_majority (byte ∙ majority_byte_lem g bs v maj (three (rw zeroth (omega arith)) (rw y l) low) ∙ ap (λ (p : ℕ). voted p (byte_of g bs v 1) r) constant ∙ ap (λ (p : ℕ). voted (word g (3 * v + 0) % 2 * 255) (bit_xor p (word g (3 * v + 1) % 2 * 255)) r) y)
      ∙ (never r (word g (3 * v + 0) % 2) i (word g (3 * v + 1) % 2) rl (omega arith) h (omega arith)).0)
      (eq_or_ne (truth g t (word g (3 * v + 2) / 2)) leak)

  pub third_passed : (i : ℕ) → i < 3 → truth g t (word g (3 * v + 2) / 2) ≡ variable i → is_majority (truth g t (node g v)) ≡ false
  unfolding voted byte_of
  third_passed i h e =
      let y : get_or (over g t v) (word g (3 * v + 2) / 2) 0 ≡ variable i = at 2 (omega arith) e₂ ∙ e in
      let l = variable_low i in
      ⊎_elim
      (λ (q : truth g t (word g (3 * v + 1) / 2) ≡ leak). ap is_majority (byte ∙ leak_byte g bs v 1 (omega arith) e₁ (at 1 (omega arith) e₁ ∙ q)) ∙ leak_none)
      (λ (n : truth g t (word g (3 * v + 1) / 2) ≢ leak).
      let z = at 1 (omega arith) e₁ in
      let low : get_or (over g t v) (word g (3 * v + 1) / 2) 0 < 256 = omega (arith, z, n, truth_le g t (word g (3 * v + 1) / 2) (omega (arith, adm.below (3 * v + 1) (omega arith) e₁))) in
      let r : ℕ = byte_of g bs v 1 in
      let rl : r < 256 = turned_lt _ _ low (omega arith) in
      ap is_majority (byte ∙ majority_byte_lem g bs v maj (three (rw zeroth (omega arith)) low (rw y l)) ∙ ap (λ (p : ℕ). voted p r (byte_of g bs v 2)) constant ∙ ap (λ (p : ℕ). voted (word g (3 * v + 0) % 2 * 255) r (bit_xor p (word g (3 * v + 2) % 2 * 255))) y)
      ∙ (never r (word g (3 * v + 0) % 2) i (word g (3 * v + 2) % 2) rl (omega arith) h (omega arith)).1)
      (eq_or_ne (truth g t (word g (3 * v + 1) / 2)) leak)

pub not_covered : (g : Graph) → Admitted g → (t : Triple) (i : ℕ) → i < node g g.N → NotCovered g t i
not_covered g adm t i h =
    record { leaks = λ m. way_leaks g adm t i m.over m.way m.misses; missed = missed_below g adm t (suc i) i (omega arith) h }
