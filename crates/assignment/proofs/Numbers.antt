-- The bits of a number in its block, and the inputs' words. From the laws on bits.
use mathlib.Core.Path.{◌≡◌, refl, sym, ap, ◌∙◌}
use mathlib.Core.List.{List}
use mathlib.Core.Logic.{⊎_elim}
use Prim.Native.Nat.{ℕ, zero, suc, ◌+◌, ◌-◌, ◌*◌, ◌/◌, ◌%◌, ◌^◌, ◌≤◌, ◌<◌}
use native.Mathlib.Omega.{arith}
use lib.ListN.{length, get_or}
use lib.Pow.{shr-shr}
use Rattle.graph.specs.Finite.{tab, if_equal, first, first_of}
use Rattle.graph.proofs.Cases.{lt_or_le}
use Rattle.graph.proofs.Finite.{length_tab, get_d_tab}
use Rattle.graph.proofs.Tests.{less, no_less, each_none, is}
use Rattle.graph.specs.Literals.{bit}
use Rattle.evaluation.proofs.Bits.{bit_ones, bit_zero}
use Rattle.evaluation.proofs.Gather.{bit_low}
use Rattle.assignment.specs.Inner.{masks, input_word}

module _ (b j : ℕ) (h : j < 64) where
  low_bit : (k : ℕ) → k < 6 → bit k (64 * b + j) ≡ bit k j
  low_bit k l =
      let m : (64 * b + j) % 64 ≡ j = omega arith in
      sym (bit_low k 6 (64 * b + j) l) ∙ ap (bit k) m

  high_bit : (k : ℕ) → 6 ≤ k → bit k (64 * b + j) ≡ b / 2 ^ (k - 6) % 2
  unfolding bit
  high_bit k l =
      let e : 6 + (k - 6) ≡ k = omega arith in
      let d : (64 * b + j) / 64 ≡ b = omega arith in
      let s : (64 * b + j) / 64 / 2 ^ (k - 6) ≡ (64 * b + j) / 2 ^ (6 + (k - 6)) = shr-shr (64 * b + j) 6 (k - 6) in
      ap (λ (x : ℕ). x % 2) (sym (rw e at s) ∙ ap (λ (x : ℕ). x / 2 ^ (k - 6)) d)

-- the rule of the six masks, by one computed test
masks_right : first_of 6 (λ k. first_of 64 (λ j. if_equal (bit j (get_or masks k 0)) (bit k j) 0 1)) ≡ 0
unfolding first_of first if_equal bit
masks_right = refl

mask_bit : (k j : ℕ) → k < 6 → j < 64 → bit j (get_or masks k 0) ≡ bit k j
mask_bit k j h l =
    let e = each_none 6 (λ k. first_of 64 (λ j. if_equal (bit j (get_or masks k 0)) (bit k j) 0 1)) masks_right k h in
    let d = each_none 64 (λ j. if_equal (bit j (get_or masks k 0)) (bit k j) 0 1) e j l in
    (is (bit j (get_or masks k 0)) (bit k j) 0 0 d).0

bit_all : (j b : ℕ) → j < 64 → b ≤ 1 → bit j (b * 18446744073709551615) ≡ b
bit_all j zero h k = bit_zero j
bit_all j (suc zero) h k = bit_ones j h
bit_all j (suc (suc b)) h k = absurd (omega arith)

-- in place j of block b input k + 1 has bit k of the number 64 b + j
pub input_bit : (b k j : ℕ) → j < 64 → bit j (input_word b k) ≡ bit k (64 * b + j)
unfolding input_word
input_bit b k j h =
    ⊎_elim
    (λ (l : k < 6). ap (bit j) (sym (less k 6 (get_or masks k 0) _ l refl)) ∙ mask_bit k j l h ∙ sym (low_bit b j h k l))
    (λ (l : 6 ≤ k). ap (bit j) (sym (no_less k 6 (get_or masks k 0) (b / 2 ^ (k - 6) % 2 * 18446744073709551615) l refl)) ∙ bit_all j (b / 2 ^ (k - 6) % 2) h (omega arith) ∙ sym (high_bit b j h k l))
    (lt_or_le k 6)

pub words_bit : (words : List ℕ) (b k j : ℕ) → words ≡ tab 16 (input_word b) → k < 16 → j < 64 → bit j (get_or words k 0) ≡ bit k (64 * b + j)
words_bit words b k j e h l = rw (e, get_d_tab 16 (input_word b) k h) (input_bit b k j l)

pub words_long : (words : List ℕ) (b : ℕ) → words ≡ tab 16 (input_word b) → length words ≡ 16
words_long words b e = ap length e ∙ length_tab 16 (input_word b)
