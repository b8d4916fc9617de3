-- A word is its bits: a word of 64 bits is known by them, and a word gathered from bits has them. Assumes nothing.
use mathlib.Core.Path.{◌≡◌, refl, sym, ap, ap₂, ◌∙◌}
use mathlib.Core.Logic.{⊎_elim}
use Prim.Native.Nat.{ℕ, zero, suc, ◌+◌, ◌-◌, ◌*◌, ◌/◌, ◌%◌, ◌^◌, ◌≤◌, ◌<◌}
use native.Mathlib.Nat.{mod-eq_of_lt, mod-one, add_comm, pow-suc, eq-or-lt_of_le, le_of_suc-le-suc, not-suc-le-zero}
use native.Mathlib.Omega.{arith}
use lib.Bits.{bit_xor, xor_lt}
use lib.Pow.{mod-pow-add, high, low, field, mod-mod-pow}
use Rattle.graph.specs.Literals.{bit}
use Rattle.evaluation.specs.Word.{gather}
use Rattle.evaluation.proofs.Bits.{bit_turned}

gather_bits : (w k : ℕ) → gather (λ j. bit j w) k ≡ w % 2 ^ k
unfolding gather bit
gather_bits w zero = sym (mod-one w)
gather_bits w (suc k) =
    let e = gather_bits w k in
    let m : w % 2 ^ (1 + k) ≡ (w / 2 ^ k % 2) * 2 ^ k + w % 2 ^ k = mod-pow-add w 1 k in
    let s : 1 + k ≡ suc k = omega arith in
    let m' : w % 2 ^ suc k ≡ (w / 2 ^ k % 2) * 2 ^ k + w % 2 ^ k = rw s at m in
    rw m' (omega (arith, e))

pub gather_same : (f g : ℕ → ℕ) (k : ℕ) → ((j : ℕ) → j < k → f j ≡ g j) → gather f k ≡ gather g k
unfolding gather
gather_same f g zero e = refl
gather_same f g (suc k) e = ap₂ (λ (x y : ℕ). x + y * 2 ^ k) (gather_same f g k (λ j h. e j (omega arith))) (e k (omega arith))

-- a word of 64 bits is known by its bits
pub word_is : (f : ℕ → ℕ) (w : ℕ) → w < 2 ^ 64 → ((j : ℕ) → j < 64 → bit j w ≡ f j) → w ≡ gather f 64
word_is f w h e = sym (gather_bits w 64 ∙ mod-eq_of_lt h) ∙ gather_same (λ j. bit j w) f 64 e

-- a bit below place k is a bit of what is left modulo 2 ^ k
bit_low_at : (d j n : ℕ) → bit j (n % 2 ^ (d + 1 + j)) ≡ bit j n
unfolding bit
bit_low_at d j n = ap (λ (x : ℕ). x % 2) (field n (d + 1) j) ∙ mod-mod-pow (n / 2 ^ j) d 1

pub bit_low : (j k n : ℕ) → j < k → bit j (n % 2 ^ k) ≡ bit j n
bit_low j k n h = let e : k - suc j + 1 + j ≡ k = omega arith in rw e at (bit_low_at (k - suc j) j n)

bit_top : (b x k : ℕ) → b < 2 → x < 2 ^ k → bit k (b * 2 ^ k + x) ≡ b
unfolding bit
bit_top b x k h l = ap (λ (n : ℕ). n % 2) (high b k l) ∙ mod-eq_of_lt h

below_twice : (b x p : ℕ) → b < 2 → x < p → x + b * p < 2 * p
below_twice zero x p h l = omega arith
below_twice (suc zero) x p h l = omega arith
below_twice (suc (suc b)) x p h l = absurd (omega arith)

module _ (f : ℕ → ℕ) (bits : (j : ℕ) → f j < 2) where
  pub gather_lt : (k : ℕ) → gather f k < 2 ^ k
  unfolding gather
  gather_lt zero = omega arith
  gather_lt (suc k) = omega (arith, below_twice (f k) (gather f k) (2 ^ k) (bits k) (gather_lt k), pow-suc 2 k)

  pub bit_gather : (k j : ℕ) → j < k → bit j (gather f k) ≡ f j
  unfolding gather
  bit_gather zero j h = absurd (not-suc-le-zero h)
  bit_gather (suc k) j h =
      let e : gather f k + f k * 2 ^ k ≡ f k * 2 ^ k + gather f k = add_comm _ _ in
      rw e (⊎_elim
      (λ (q : j ≡ k). rw q (bit_top (f k) (gather f k) k (bits k) (gather_lt k)))
      (λ (l : j < k). sym (bit_low j k (f k * 2 ^ k + gather f k) l) ∙ ap (bit j) (low (f k) k (gather_lt k)) ∙ bit_gather k j l)
      (eq-or-lt_of_le (le_of_suc-le-suc h)))

-- a word of 64 bits against a mask that is b in every place
pub turned_is : (w b : ℕ) → w < 2 ^ 64 → b ≤ 1 → bit_xor w (b * 18446744073709551615) ≡ gather (λ j. (bit j w + b) % 2) 64
turned_is w b h k =
    word_is (λ j. (bit j w + b) % 2) _ (xor_lt 64 w (b * 18446744073709551615) h (omega arith)) (λ j l. bit_turned j w b l k)
