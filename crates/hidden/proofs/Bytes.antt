-- A node's byte as and, or and xor of its words' bytes, and a leak: what code works out. From the laws on bits.
use mathlib.Core.Path.{◌≡◌, refl, sym, ap, ◌∙◌}
use mathlib.Core.Bool.{Bool, true, false, cond, ◌||◌, and-false, or-true}
use mathlib.Core.Logic.{⊎_elim, ◌≢◌}
use mathlib.Core.List.{List, map}
use Prim.Native.Nat.{ℕ, zero, suc, ◌+◌, ◌-◌, ◌*◌, ◌/◌, ◌%◌, ◌≤◌, ◌<◌}
use native.Mathlib.Omega.{arith}
use borrow.Author.Tests.{ne_eqb, eq-eqb}
use lib.Bits.{bit_and, bit_or, bit_xor, and_lt, or_lt, xor_lt}
use lib.Dec.{T, eqb, eqb→eq}
use lib.ListN.{get_or}
use Rattle.graph.specs.Graph.{Graph, word, is_edge, is_xor}
use Rattle.graph.specs.Value.{majority, exclusive, literal_value, node_value}
use Rattle.graph.specs.Literals.{bit}
use Rattle.evaluation.specs.Word.{gather}
use Rattle.graph.proofs.Bits.{bit_xor_lem}
use Rattle.evaluation.proofs.Bits.{bit_zero, bit_majority}
use Rattle.evaluation.proofs.Gather.{gather_same}
use Rattle.moves.proofs.Flags.{all, all_at}
use Rattle.graph.specs.Finite.{if_equal}
use Rattle.graph.proofs.Cases.{lt_or_le, cond_le}
use Rattle.graph.proofs.Fixed.{node_bit}
use Rattle.hidden.specs.Truth.{Triple, leak, free, leaks, node_byte, over, truth}
use Rattle.hidden.proofs.Over.{get_d_bits, truth_zero, truth_input, truth_node}

-- a byte is known by its eight bits
byte_right : ℕ → Bool
byte_right w = eqb (gather (λ j. bit j w) 8) w

all_right : T (all 256 byte_right)
unfolding byte_right gather bit
all_right = tt

pub byte_is : (f : ℕ → ℕ) (w : ℕ) → w < 256 → ((j : ℕ) → j < 8 → bit j w ≡ f j) → gather f 8 ≡ w
unfolding byte_right
byte_is f w h e = sym (gather_same (λ j. bit j w) f 8 e) ∙ eqb→eq (gather (λ j. bit j w) 8) w (all_at 256 byte_right all_right w h)

ones_right : ℕ → Bool
ones_right j = eqb (bit j 255) 1

all_ones : T (all 8 ones_right)
unfolding ones_right bit
all_ones = tt

bit_255 : (j : ℕ) → j < 8 → bit j 255 ≡ 1
unfolding ones_right
bit_255 j h = eqb→eq (bit j 255) 1 (all_at 8 ones_right all_ones j h)

-- the byte x of a literal's index, turned where the literal is complemented
abbrev pub turned_byte : ℕ → ℕ → ℕ
turned_byte x b = bit_xor x (b * 255)

bit_turned : (j x b : ℕ) → j < 8 → b < 2 → bit j (turned_byte x b) ≡ (bit j x + b) % 2
bit_turned j x zero h k = bit_xor_lem j x 0 ∙ ap (λ (n : ℕ). (bit j x + n) % 2) (bit_zero j)
bit_turned j x (suc zero) h k = bit_xor_lem j x 255 ∙ ap (λ (n : ℕ). (bit j x + n) % 2) (bit_255 j h)
bit_turned j x (suc (suc b)) h k = absurd (omega arith)

pub turned_lt : (x b : ℕ) → x < 256 → b < 2 → turned_byte x b < 256
turned_lt x b h k = xor_lt 8 x (b * 255) h (omega arith)

module _ (g : Graph) (bs : List ℕ) (v : ℕ) where
  -- the byte of the k-th word's literal
  unfoldable pub byte_of : ℕ → ℕ
  byte_of k = turned_byte (get_or bs (word g (3 * v + k) / 2) 0) (word g (3 * v + k) % 2)

  literal_byte : (j k : ℕ) → j < 8 → bit j (byte_of k) ≡ literal_value (map (bit j) bs) (word g (3 * v + k))
  unfolding byte_of literal_value
  literal_byte j k h =
      bit_turned j (get_or bs (word g (3 * v + k) / 2) 0) (word g (3 * v + k) % 2) h (omega arith)
      ∙ ap (λ (n : ℕ). (n + word g (3 * v + k) % 2) % 2) (sym (get_d_bits j bs (word g (3 * v + k) / 2)))

  no_leak : (k : ℕ) → get_or bs (word g (3 * v + k) / 2) 0 < 256 → leaks g bs (3 * v + k) ≡ false
  unfolding leaks
  no_leak k h = rw (ne_eqb (get_or bs (word g (3 * v + k) / 2) 0) 256 (omega arith), and-false)

  no_edge : is_xor g v ≡ true → leaks g bs (3 * v + 2) ≡ false
  unfolding leaks is_edge is_xor
  no_edge e = let r : (3 * v + 2) % 3 ≡ 2 = omega arith in rw (e, r)

  pub majority_byte_lem : is_xor g v ≡ false → ((k : ℕ) → k < 3 → get_or bs (word g (3 * v + k) / 2) 0 < 256)
      → node_byte g bs v ≡ bit_or (bit_or (bit_and (byte_of 0) (byte_of 1)) (bit_and (byte_of 0) (byte_of 2))) (bit_and (byte_of 1) (byte_of 2))
  unfolding node_byte node_value byte_of
  majority_byte_lem e h =
      let b : (k : ℕ) → k < 3 → byte_of k < 256 = λ k l. turned_lt (get_or bs (word g (3 * v + k) / 2) 0) (word g (3 * v + k) % 2) (h k l) (omega arith) in
      let b₀ = b 0 (omega arith) in
      let b₁ = b 1 (omega arith) in
      let b₂ = b 2 (omega arith) in
      rw (no_leak 0 (h 0 (omega arith)), no_leak 1 (h 1 (omega arith)), no_leak 2 (h 2 (omega arith)), e)
      (byte_is (λ j. majority (literal_value (map (bit j) bs) (word g (3 * v + 0))) (literal_value (map (bit j) bs) (word g (3 * v + 1))) (literal_value (map (bit j) bs) (word g (3 * v + 2)))) _
      (or_lt 8 _ _ (or_lt 8 _ _ (and_lt 8 _ _ b₀ b₁) (and_lt 8 _ _ b₀ b₂)) (and_lt 8 _ _ b₁ b₂))
      (λ j l. bit_majority j (byte_of 0) (byte_of 1) (byte_of 2) ∙ rw (literal_byte j 0 l, literal_byte j 1 l, literal_byte j 2 l)))

  pub xor_byte : is_xor g v ≡ true → ((k : ℕ) → k < 2 → get_or bs (word g (3 * v + k) / 2) 0 < 256) → node_byte g bs v ≡ bit_xor (byte_of 0) (byte_of 1)
  unfolding node_byte node_value exclusive byte_of
  xor_byte e h =
      let b : (k : ℕ) → k < 2 → byte_of k < 256 = λ k l. turned_lt (get_or bs (word g (3 * v + k) / 2) 0) (word g (3 * v + k) % 2) (h k l) (omega arith) in
      rw (no_leak 0 (h 0 (omega arith)), no_leak 1 (h 1 (omega arith)), no_edge e, e)
      (byte_is (λ j. (literal_value (map (bit j) bs) (word g (3 * v + 0)) + literal_value (map (bit j) bs) (word g (3 * v + 1))) % 2) _
      (xor_lt 8 _ _ (b 0 (omega arith)) (b 1 (omega arith)))
      (λ j l. bit_xor_lem j (byte_of 0) (byte_of 1) ∙ rw (literal_byte j 0 l, literal_byte j 1 l)))

  pub leak_byte : (k : ℕ) → k < 3 → is_edge g (3 * v + k) ≡ true → get_or bs (word g (3 * v + k) / 2) 0 ≡ leak → node_byte g bs v ≡ leak
  unfolding node_byte leaks
  leak_byte zero h e q = rw (e, eq-eqb (get_or bs (word g (3 * v + 0) / 2) 0) 256 q)
  leak_byte (suc zero) h e q = rw (e, eq-eqb (get_or bs (word g (3 * v + 1) / 2) 0) 256 q, or-true)
  leak_byte (suc (suc zero)) h e q = rw (e, eq-eqb (get_or bs (word g (3 * v + 2) / 2) 0) 256 q, or-true)
  leak_byte (suc (suc (suc k))) h e q = absurd (omega arith)

-- a truth value is a byte or a leak
gather_byte : (f : ℕ → ℕ) → ((j : ℕ) → f j < 2) → gather f 8 < 256
unfolding gather
gather_byte f b = omega (arith, b 0, b 1, b 2, b 3, b 4, b 5, b 6, b 7)

node_byte_lem : (g : Graph) (bs : List ℕ) (v : ℕ) → gather (λ k. node_value g (map (bit k) bs) v) 8 < 256
node_byte_lem g bs v = gather_byte (λ k. node_value g (map (bit k) bs) v) (λ k. node_bit g (map (bit k) bs) v)

-- so that a node leaks by one of its words
pub leak_by : (g : Graph) (bs : List ℕ) (v : ℕ) → node_byte g bs v ≡ leak → (leaks g bs (3 * v + 0) || leaks g bs (3 * v + 1) || leaks g bs (3 * v + 2)) ≡ true
unfolding node_byte
leak_by g bs v e = leaks_or (leaks g bs (3 * v + 0) || leaks g bs (3 * v + 1) || leaks g bs (3 * v + 2)) _ (node_byte_lem g bs v) e
  where
    leaks_or : (b : Bool) (x : ℕ) → x < 256 → cond b leak x ≡ leak → b ≡ true
    leaks_or true x h e = refl
    leaks_or false x h e = absurd (omega (arith, e))

byte_le : (g : Graph) (bs : List ℕ) (v : ℕ) → node_byte g bs v ≤ 256
unfolding node_byte
byte_le g bs v = cond_le (leaks g bs (3 * v + 0) || leaks g bs (3 * v + 1) || leaks g bs (3 * v + 2)) leak _ 256 (omega arith) (omega (arith, node_byte_lem g bs v))

free_le : (t : Triple) (i x : ℕ) → x ≤ 256 → free t i x ≤ 256
unfolding free if_equal
free_le t i x h = cond_le (eqb i t.one) 170 _ 256 (omega arith) (cond_le (eqb i t.two) 204 _ 256 (omega arith) (cond_le (eqb i t.three) 240 x 256 (omega arith) h))

pub free_apart : (t : Triple) (i x : ℕ) → i ≢ t.one → i ≢ t.two → i ≢ t.three → free t i x ≡ x
unfolding free if_equal
free_apart t i x p q r = rw (ne_eqb i t.one p, ne_eqb i t.two q, ne_eqb i t.three r)

pub truth_le : (g : Graph) (t : Triple) (i : ℕ) → i < g.I + 1 + g.N → truth g t i ≤ 256
truth_le g t zero h = rw (truth_zero g t) (omega arith)
truth_le g t (suc k) h =
    ⊎_elim
    (λ (l : k < g.I). rw (truth_input g t k l) (free_le t (suc k) leak (omega arith)))
    (λ (l : g.I ≤ k).
    let v : ℕ = k - g.I in
    let e : suc k ≡ g.I + 1 + v = omega arith in
    rw (e, truth_node g t v (omega arith)) (free_le t (g.I + 1 + v) (node_byte g (over g t v) v) (byte_le g (over g t v) v)))
    (lt_or_le k g.I)
