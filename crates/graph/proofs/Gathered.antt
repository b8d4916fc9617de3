-- Words of bits that are gathered, one bit after another, the latest highest: the bits of a word that has begun, and of all words with one bit
-- more. From the laws of bits.
use Rattle.std.proofs.Common.{◌≡◌, ℕ, zero, suc, ◌+◌, ◌-◌, ◌*◌, ◌/◌, ◌%◌, ◌^◌, ◌<◌, ◌≤◌, ◌≢◌, List, length, set, sym, refl, ap, ◌∙◌, ⊎_elim, lt_of_lt_of_le, mul_assoc, pow-suc, div-one, arith, length-set, get_or-set_other, get_or-set_same, pow_pos, pow_mono, pow-add, shr-shr, shr_lt}
use native.Mathlib.Nat.{div-eq_of_lt, add-mul-div_right}
use lib.Bits.{shifted_even}
use Rattle.graph.specs.Inner.{begun}
use Rattle.graph.specs.Literals.{bit, bit_at}
use Rattle.graph.proofs.Cases.{eq_or_ne}
use Rattle.graph.proofs.Tests.{equal, unequal}

-- a word w of k bits with one more
module _ (w k b : ℕ) (h : w < 2 ^ k) (c : b ≤ 1) where
  low_bit : (m : ℕ) → m < k → bit m (w + b * 2 ^ k) ≡ bit m w
  unfolding bit
  low_bit m l =
      let d = k - m - 1 in
      let e : suc d + m ≡ k = omega arith in
      let p : 2 ^ k ≡ 2 ^ suc d * 2 ^ m = rw e at (pow-add 2 (suc d) m) in
      let q : w + b * 2 ^ k ≡ w + b * 2 ^ suc d * 2 ^ m = ap (λ (x : ℕ). w + b * x) p ∙ ap (λ (x : ℕ). w + x) (sym (mul_assoc b (2 ^ suc d) (2 ^ m))) in
      rw (q, add-mul-div_right w (b * 2 ^ suc d) (pow_pos m)) (omega (arith, shifted_even b d))

  top_bit : bit k (w + b * 2 ^ k) ≡ b
  unfolding bit
  top_bit = rw (add-mul-div_right w b (pow_pos k), div-eq_of_lt h) (omega arith)

  below_next : (b : ℕ) → b ≤ 1 → w + b * 2 ^ k < 2 ^ suc k
  below_next zero l = omega (arith, pow-suc 2 k)
  below_next (suc zero) l = omega (arith, pow-suc 2 k)
  below_next (suc (suc b)) l = absurd (omega arith)

  no_bit : (m : ℕ) → k < m → bit m (w + b * 2 ^ k) ≡ 0
  unfolding bit
  no_bit m l = rw (div-eq_of_lt (lt_of_lt_of_le (below_next b c) (pow_mono l)))

-- what is gathered, one bit more
gather : (got b k : ℕ) → k < 64 → (got / 2 + b * 9223372036854775808) / 2 ^ (63 - k) ≡ got / 2 ^ (64 - k) + b * 2 ^ k
gather got b k h =
    let d = 63 - k in
    let e : k + d ≡ 63 = omega arith in
    let f : 1 + d ≡ 64 - k = omega arith in
    let p : 9223372036854775808 ≡ 2 ^ k * 2 ^ d = rw e at (pow-add 2 k d) in
    let q : got / 2 + b * 9223372036854775808 ≡ got / 2 + b * 2 ^ k * 2 ^ d =
    ap (λ (x : ℕ). got / 2 + b * x) p ∙ ap (λ (x : ℕ). got / 2 + x) (sym (mul_assoc b (2 ^ k) (2 ^ d))) in
    rw (q, add-mul-div_right (got / 2) (b * 2 ^ k) (pow_pos d), ← f) (ap (λ (x : ℕ). x + b * 2 ^ k) (shr-shr got 1 d))

module _ (bs : List ℕ) (got : ℕ) where
  pub begun_none : (j : ℕ) → j % 64 ≡ 0 → begun j got bs ≡ bs
  unfolding begun
  begun_none j e = sym (equal (j % 64) 0 bs (set bs (j / 64) (got / 2 ^ (64 - j % 64))) e refl)

  pub begun_some : (j : ℕ) → j % 64 ≢ 0 → begun j got bs ≡ set bs (j / 64) (got / 2 ^ (64 - j % 64))
  unfolding begun
  begun_some j n = sym (unequal (j % 64) 0 bs (set bs (j / 64) (got / 2 ^ (64 - j % 64))) n refl)

  pub length_begun : (j : ℕ) → length (begun j got bs) ≡ length bs
  length_begun j =
      ⊎_elim
      (λ (e : j % 64 ≡ 0). rw (begun_none j e))
      (λ (n : j % 64 ≢ 0). rw (begun_some j n) (length-set bs (j / 64) (got / 2 ^ (64 - j % 64))))
      (eq_or_ne (j % 64) 0)

module _ (bs : List ℕ) (j got b : ℕ) (room : j < 64 * length bs) (fits : got < 18446744073709551616) (c : b ≤ 1) where
  abbrev k : ℕ
  k = j % 64

  -- the word with the bit at place j
  abbrev word : ℕ
  word = got / 2 ^ (64 - k) + b * 2 ^ k

  abbrev more : ℕ
  more = got / 2 + b * 9223372036854775808

  abbrev ds : List ℕ
  ds = set bs (j / 64) word

  pub begun_more : k ≢ 63 → begun (j + 1) more bs ≡ ds
  begun_more n =
      let e : (j + 1) % 64 ≡ k + 1 = omega arith in
      let f : (j + 1) / 64 ≡ j / 64 = omega arith in
      let g : 64 - (k + 1) ≡ 63 - k = omega arith in
      rw (begun_some bs more (j + 1) (omega arith), e, f, g, gather got b k (omega arith))

  pub begun_full : (r : ℕ) → k ≡ 63 → begun (j + 1) r (set bs (j / 64) more) ≡ ds
  begun_full r e =
      let q : more ≡ word = rw e (sym (div-one more) ∙ gather got b 63 (omega arith)) in
      rw (begun_none (set bs (j / 64) more) r (j + 1) (omega arith), q)

  short : got / 2 ^ (64 - k) < 2 ^ k
  short = let e : k + (64 - k) ≡ 64 = omega arith in shr_lt k (64 - k) (rw e fits)

  word_at : (i : ℕ) → i / 64 ≡ j / 64 → bit_at ds i ≡ bit (i % 64) word
  unfolding bit_at
  word_at i e = rw (e, get_or-set_same bs (j / 64) word 0 (omega arith))

  -- words other than the one that has begun
  other_word : (i : ℕ) → i / 64 ≢ j / 64 → bit_at ds i ≡ bit_at (begun j got bs) i
  unfolding bit_at
  other_word i n =
      rw (get_or-set_other bs (j / 64) (i / 64) word 0 n)
      (⊎_elim
      (λ (e : k ≡ 0). rw (begun_none bs got j e))
      (λ (e : k ≢ 0). rw (begun_some bs got j e, get_or-set_other bs (j / 64) (i / 64) (got / 2 ^ (64 - k)) 0 n))
      (eq_or_ne k 0))

  same_word : (i : ℕ) → i < j → i / 64 ≡ j / 64 → bit_at ds i ≡ bit_at (begun j got bs) i
  unfolding bit_at
  same_word i h e =
      rw (begun_some bs got j (omega arith), e, get_or-set_same bs (j / 64) word 0 (omega arith), get_or-set_same bs (j / 64) (got / 2 ^ (64 - k)) 0 (omega arith))
      (low_bit (got / 2 ^ (64 - k)) k b short c (i % 64) (omega arith))

  pub bit_before : (i : ℕ) → i < j → bit_at ds i ≡ bit_at (begun j got bs) i
  bit_before i h = ⊎_elim (same_word i h) (other_word i) (eq_or_ne (i / 64) (j / 64))

  pub bit_now_lem : bit_at ds j ≡ b
  bit_now_lem = word_at j refl ∙ top_bit (got / 2 ^ (64 - k)) k b short c

  pub bit_after : (i : ℕ) → j < i → i < 64 * (j / 64 + 1) → bit_at ds i ≡ 0
  bit_after i l h = word_at i (omega arith) ∙ no_bit (got / 2 ^ (64 - k)) k b short c (i % 64) (omega arith)

  pub bit_later : (i : ℕ) → 64 * (j / 64 + 1) ≤ i → bit_at ds i ≡ bit_at (begun j got bs) i
  bit_later i h = other_word i (omega arith)
