-- The ones of words of 64 bits are the sum of their bits, place by place. By induction on the number of words.
use Rattle.std.proofs.Common.{◌≡◌, ℕ, zero, suc, ◌+◌, ◌*◌, ◌/◌, ◌%◌, ◌^◌, ◌<◌, List, get_or, sym, refl, ap, ◌∙◌, pow-suc, arith, shr-shr}
use lib.Count.{ones, ones_step}
use Rattle.graph.specs.Finite.{sum}
use Rattle.graph.proofs.Finite.{sum_same}
use Rattle.graph.specs.Literals.{bit, bit_at, ones_in}

sum_first : (n : ℕ) (f : ℕ → ℕ) → sum (suc n) f ≡ f 0 + sum n (λ j. f (suc j))
unfolding sum
sum_first zero f = omega arith
sum_first (suc n) f = omega (arith, sum_first n f)

pub sum_add : (m n : ℕ) (f : ℕ → ℕ) → sum (m + n) f ≡ sum m f + sum n (λ j. f (m + j))
unfolding sum
sum_add m zero f = let e : m + 0 ≡ m = omega arith in rw e (omega arith)
sum_add m (suc n) f = let e : m + suc n ≡ suc (m + n) = omega arith in rw e (omega (arith, sum_add m n f))

ones_none : ones 0 ≡ 0
unfolding ones
ones_none = refl

bit_next : (m w : ℕ) → bit m (w / 2) ≡ bit (suc m) w
unfolding bit
bit_next m w = let e : 1 + m ≡ suc m = omega arith in ap (λ (x : ℕ). x % 2) (rw e at (shr-shr w 1 m))

bit_first : (w : ℕ) → w % 2 ≡ bit 0 w
unfolding bit
bit_first w = omega arith

-- one word
pub ones_bits : (k w : ℕ) → w < 2 ^ k → ones w ≡ sum k (λ m. bit m w)
unfolding sum
ones_bits zero w h = let e : w ≡ 0 = omega arith in rw e ones_none
ones_bits (suc k) w h =
    ones_step w
    ∙ omega (arith, bit_first w, ones_bits k (w / 2) (omega (arith, pow-suc 2 k)), sum_same k (λ m. bit m (w / 2)) (λ m. bit (suc m) w) (λ m l. bit_next m w), sum_first k (λ m. bit m w))

-- any number of words

module _ (ws : List ℕ) where
  word_bits : (m j : ℕ) → j < 64 → bit j (get_or ws m 0) ≡ bit_at ws (64 * m + j)
  unfolding bit_at
  word_bits m j h =
      let a : (64 * m + j) / 64 ≡ m = omega arith in
      let b : (64 * m + j) % 64 ≡ j = omega arith in
      rw (a, b)

  pub ones_more : (m : ℕ) → get_or ws m 0 < 18446744073709551616 → sum (64 * (m + 1)) (bit_at ws) ≡ sum (64 * m) (bit_at ws) + ones (get_or ws m 0)
  ones_more m h =
      let e : 64 * (m + 1) ≡ 64 * m + 64 = omega arith in
      rw e
      (sum_add (64 * m) 64 (bit_at ws)
      ∙ ap (λ (x : ℕ). sum (64 * m) (bit_at ws) + x) (sym (ones_bits 64 (get_or ws m 0) h ∙ sum_same 64 (λ j. bit j (get_or ws m 0)) (λ j. bit_at ws (64 * m + j)) (word_bits m))))

  pub ones_words : (m : ℕ) → ((k : ℕ) → get_or ws k 0 < 18446744073709551616) → ones_in m ws ≡ sum (64 * m) (bit_at ws)
  unfolding ones_in sum
  ones_words zero h = refl
  ones_words (suc m) h =
      let e : suc m ≡ m + 1 = omega arith in
      rw e (sym (ones_more m (h m) ∙ ap (λ (x : ℕ). x + ones (get_or ws m 0)) (sym (ones_words m h))))
