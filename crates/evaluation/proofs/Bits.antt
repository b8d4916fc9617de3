-- Bit j of the words that and, or and a mask make. From the law of a xor.
use mathlib.Core.Path.{◌≡◌, ap, ◌∙◌}
use mathlib.Core.Bool.{Bool, true, false, cond}
use Prim.Native.Nat.{ℕ, zero, suc, ◌+◌, ◌-◌, ◌*◌, ◌/◌, ◌%◌, ◌^◌, ◌≤◌, ◌<◌, min, max}
use native.Mathlib.Nat.{pow-suc, zero-div}
use native.Mathlib.Omega.{arith}
use mir.Val.{bool_byte}
use lib.Pow.{pow_pos, ones_split, ones_lt, high}
use lib.Bits.{bit_and, bit_or, bit_xor, and_step, or_step, and_shr, or_shr}
use Rattle.graph.specs.Literals.{bit}
use Rattle.graph.specs.Value.{majority}
use Rattle.graph.proofs.Bits.{bit_xor_lem, bit_le}

and_low : (a b : ℕ) → bit_and a b % 2 ≡ min (a % 2) (b % 2)
and_low a b = rw and_step (omega arith)

or_low : (a b : ℕ) → bit_or a b % 2 ≡ max (a % 2) (b % 2)
or_low a b = rw or_step (omega arith)

pub bit_and_lem : (j a b : ℕ) → bit j (bit_and a b) ≡ min (bit j a) (bit j b)
unfolding bit
bit_and_lem j a b = ap (λ (x : ℕ). x % 2) (and_shr a b j) ∙ and_low (a / 2 ^ j) (b / 2 ^ j)

pub bit_or_lem : (j a b : ℕ) → bit j (bit_or a b) ≡ max (bit j a) (bit j b)
unfolding bit
bit_or_lem j a b = ap (λ (x : ℕ). x % 2) (or_shr a b j) ∙ or_low (a / 2 ^ j) (b / 2 ^ j)

ones_odd : (m : ℕ) → (2 ^ suc m - 1) % 2 ≡ 1
ones_odd m = omega (arith, pow-suc 2 m, pow_pos m)

bit_ones_at : (m j : ℕ) → bit j (2 ^ (suc m + j) - 1) ≡ 1
unfolding bit
bit_ones_at m j =
    ap (λ (x : ℕ). x / 2 ^ j % 2) (ones_split (suc m) j)
    ∙ ap (λ (x : ℕ). x % 2) (high (2 ^ suc m - 1) j (ones_lt j))
    ∙ ones_odd m

pub bit_ones : (j : ℕ) → j < 64 → bit j 18446744073709551615 ≡ 1
bit_ones j h = let e : suc (63 - j) + j ≡ 64 = omega arith in rw e at (bit_ones_at (63 - j) j)

pub bit_zero : (j : ℕ) → bit j 0 ≡ 0
unfolding bit
bit_zero j = ap (λ (x : ℕ). x % 2) (zero-div (2 ^ j))

-- a word against a mask that is b in every place
pub bit_turned : (j w b : ℕ) → j < 64 → b ≤ 1 → bit j (bit_xor w (b * 18446744073709551615)) ≡ (bit j w + b) % 2
bit_turned j w zero h k = bit_xor_lem j w 0 ∙ ap (λ (x : ℕ). (bit j w + x) % 2) (bit_zero j)
bit_turned j w (suc zero) h k = bit_xor_lem j w 18446744073709551615 ∙ ap (λ (x : ℕ). (bit j w + x) % 2) (bit_ones j h)
bit_turned j w (suc (suc b)) h k = absurd (omega arith)

-- the bits of e where x holds, else those of a: by a mask
pub mask_fits : (x : Bool) → bool_byte x * 18446744073709551615 < 18446744073709551616
unfolding bool_byte
mask_fits true = omega arith
mask_fits false = omega arith

pub bit_either : (x : Bool) (a e j : ℕ) → j < 64 → bit j (bit_xor a (bit_and (bit_xor a e) (bool_byte x * 18446744073709551615))) ≡ cond x (bit j e) (bit j a)
unfolding bool_byte
bit_either true a e j h =
    omega (arith, bit_xor_lem j a (bit_and (bit_xor a e) 18446744073709551615), bit_and_lem j (bit_xor a e) 18446744073709551615, bit_xor_lem j a e, bit_ones j h, bit_le j a, bit_le j e)
bit_either false a e j h =
    omega (arith, bit_xor_lem j a (bit_and (bit_xor a e) 0), bit_and_lem j (bit_xor a e) 0, bit_zero j, bit_le j a)

pub bit_majority : (j x y z : ℕ) → bit j (bit_or (bit_or (bit_and x y) (bit_and x z)) (bit_and y z)) ≡ majority (bit j x) (bit j y) (bit j z)
unfolding majority
bit_majority j x y z = simp (bit_or_lem, bit_and_lem)
