-- Bits of one word: of a xor, of a shifted bit, of a word with one bit changed, and several by one shift. Assumes nothing.
use Rattle.std.proofs.Common.{◌≡◌, ℕ, zero, suc, ◌+◌, ◌-◌, ◌*◌, ◌/◌, ◌%◌, ◌^◌, ◌<◌, ◌≤◌, ◌≢◌, List, get_or, sym, refl, ap, ◌∙◌, ⊎_elim, mul_assoc, div-one, arith, pow-add, shl_exact, shr-shr}
use native.Mathlib.Nat.{div-eq_of_lt, div-div-eq-div-mul}
use lib.Pow.{pow-lt, shl-shr}
use lib.Bits.{bit_xor, xor_step, xor_shr, differ, shifted_even}
use Rattle.graph.proofs.Cases.{lt_or_le, eq_or_ne}
use Rattle.graph.proofs.Tests.{equal, unequal}
use Rattle.graph.specs.Inner.{Thirds}
use Rattle.graph.specs.Literals.{bit, bit_at}
use Rattle.graph.specs.Turned.{only}

differ_mod : (x y : ℕ) → x ≤ 1 → y ≤ 1 → differ x y ≡ (x + y) % 2
differ_mod zero zero h k = refl
differ_mod zero (suc zero) h k = refl
differ_mod (suc zero) zero h k = refl
differ_mod (suc zero) (suc zero) h k = refl
differ_mod zero (suc (suc y)) h k = absurd (omega arith)
differ_mod (suc zero) (suc (suc y)) h k = absurd (omega arith)
differ_mod (suc (suc x)) y h k = absurd (omega arith)

xor_low : (a b : ℕ) → bit_xor a b % 2 ≡ (a % 2 + b % 2) % 2
xor_low a b = rw xor_step (omega (arith, differ_mod (a % 2) (b % 2) (omega arith) (omega arith)))

pub bit_xor_lem : (m a b : ℕ) → bit m (bit_xor a b) ≡ (bit m a + bit m b) % 2
unfolding bit
bit_xor_lem m a b = ap (λ (x : ℕ). x % 2) (xor_shr a b m) ∙ xor_low (a / 2 ^ m) (b / 2 ^ m)

pub bit_le : (m w : ℕ) → bit m w ≤ 1
unfolding bit
bit_le m w = omega arith

bit_same : (k b : ℕ) → b ≤ 1 → bit k (b * 2 ^ k) ≡ b
unfolding bit
bit_same k b h = ap (λ (x : ℕ). x % 2) (shl-shr b k) ∙ omega arith

bit_below : (d m b : ℕ) → bit m (b * 2 ^ (suc d + m)) ≡ 0
unfolding bit
bit_below d m b =
    ap (λ (x : ℕ). b * x / 2 ^ m % 2) (pow-add 2 (suc d) m)
    ∙ ap (λ (x : ℕ). x / 2 ^ m % 2) (sym (mul_assoc b (2 ^ suc d) (2 ^ m)))
    ∙ ap (λ (x : ℕ). x % 2) (shl-shr (b * 2 ^ suc d) m)
    ∙ shifted_even b d

small : (b p q : ℕ) → b ≤ 1 → p < q → b * p < q
small zero p q h l = omega arith
small (suc zero) p q h l = omega arith
small (suc (suc b)) p q h l = absurd (omega arith)

bit_above : (m k b : ℕ) → b ≤ 1 → k < m → bit m (b * 2 ^ k) ≡ 0
unfolding bit
bit_above m k b h l = ap (λ (x : ℕ). x % 2) (div-eq_of_lt (small b (2 ^ k) (2 ^ m) h (pow-lt l)))

pub bit_shifted : (m k b : ℕ) → b ≤ 1 → bit m (b * 2 ^ k) ≡ only k b m
unfolding only
bit_shifted m k b h =
    ⊎_elim
    (λ (e : m ≡ k). equal m k b 0 e (rw e (bit_same k b h)))
    (λ (n : m ≢ k).
    unequal m k b 0 n
    (⊎_elim
    (λ (l : m < k). let e : suc (k - m - 1) + m ≡ k = omega arith in rw e at (bit_below (k - m - 1) m b))
    (λ (l : k ≤ m). bit_above m k b h (omega arith))
    (lt_or_le m k)))
    (eq_or_ne m k)

only_odd : (k t m b : ℕ) → (b + only k (t % 2) m) % 2 ≡ (b + only k t m) % 2
unfolding only
only_odd k t m b =
    ⊎_elim
    (λ (e : m ≡ k). rw (sym (equal m k (t % 2) 0 e refl), sym (equal m k t 0 e refl)) (omega arith))
    (λ (n : m ≢ k). rw (sym (unequal m k (t % 2) 0 n refl), sym (unequal m k t 0 n refl)))
    (eq_or_ne m k)

-- a word of n bits with bit k changed t times
pub bit_flipped : (n w k t : ℕ) → k < n → (m : ℕ) → bit m (bit_xor w (t % 2 * 2 ^ k % 2 ^ n)) ≡ (bit m w + only k t m) % 2
bit_flipped n w k t h m =
    ap (λ (x : ℕ). bit m (bit_xor w x)) (shl_exact {a = t % 2} 1 k n (omega arith) (omega arith))
    ∙ bit_xor_lem m w (t % 2 * 2 ^ k)
    ∙ ap (λ (x : ℕ). (bit m w + x) % 2) (bit_shifted m k (t % 2) (omega arith))
    ∙ only_odd k t m (bit m w)

eighth : (a : ℕ) → a % 8 ≡ a / 1 % 2 + 2 * (a / 2 % 2) + 4 * (a / 4 % 2)
eighth a = let y = a / 2 in let q : a / 4 ≡ y / 2 = sym (div-div-eq-div-mul a 2 2) in let o = div-one a in rw (q, o) (omega arith)

-- a bit of the same word, by a shift to the place `at`
up_to : (bs : List ℕ) (at k : ℕ) → at % 64 + k < 64 → bit_at bs (at + k) ≡ get_or bs (at / 64) 0 / 2 ^ (at % 64) / 2 ^ k % 2
unfolding bit_at bit
up_to bs at k l =
    let d : (at + k) / 64 ≡ at / 64 = omega arith in
    let m : (at + k) % 64 ≡ at % 64 + k = omega arith in
    rw (d, m) (ap (λ (x : ℕ). x % 2) (sym (shr-shr (get_or bs (at / 64) 0) (at % 64) k)))

-- three bits of the same word
pub three_more : (bs : List ℕ) (at k : ℕ) → at % 64 + k < 62
    → get_or bs (at / 64) 0 / 2 ^ (at % 64) / 2 ^ k % 8 ≡ bit_at bs (at + k) + 2 * bit_at bs (at + k + 1) + 4 * bit_at bs (at + k + 2)
three_more bs at k h =
    let w = get_or bs (at / 64) 0 / 2 ^ (at % 64) in
    let p : at + (k + 1) ≡ at + k + 1 = omega arith in
    let q : at + (k + 2) ≡ at + k + 2 = omega arith in
    let y = rw p at (up_to bs at (k + 1) (omega arith)) ∙ ap (λ (x : ℕ). x % 2) (sym (shr-shr w k 1)) in
    let z = rw q at (up_to bs at (k + 2) (omega arith)) ∙ ap (λ (x : ℕ). x % 2) (sym (shr-shr w k 2)) in
    let o = div-one (w / 2 ^ k) in
    rw (up_to bs at k (omega arith), y, z) (rw o at (eighth (w / 2 ^ k)))

pub three_bits_lem : (bs : List ℕ) (at : ℕ) → at % 64 < 62 → get_or bs (at / 64) 0 / 2 ^ (at % 64) % 8 ≡ bit_at bs at + 2 * bit_at bs (at + 1) + 4 * bit_at bs (at + 2)
three_bits_lem bs at h =
    let e : at + 0 ≡ at = omega arith in
    let o = div-one (get_or bs (at / 64) 0 / 2 ^ (at % 64)) in
    rw (e, o) at (three_more bs at 0 (omega arith))

-- those of the third words of four nodes
pub thirds_shifted : (bs : List ℕ) (at : ℕ) → at % 64 < 53 → Thirds bs at (get_or bs (at / 64) 0 / 2 ^ (at % 64) % 4096)
thirds_shifted bs at h =
    let w = get_or bs (at / 64) 0 / 2 ^ (at % 64) in
    record {
      first = rw (up_to bs at 2 (omega arith)) (omega arith);
      second = rw (up_to bs at 5 (omega arith)) (omega arith);
      third = rw (up_to bs at 8 (omega arith)) (omega arith);
      fourth = rw (up_to bs at 11 (omega arith)) (omega arith);
    }

-- the same, each by itself
pub thirds_apart : (bs : List ℕ) (at x y z u : ℕ) → x ≡ bit_at bs (at + 2) → y ≡ bit_at bs (at + 5) → z ≡ bit_at bs (at + 8) → u ≡ bit_at bs (at + 11)
    → x ≤ 1 → y ≤ 1 → z ≤ 1 → u ≤ 1 → Thirds bs at (4 * x + 32 * y + 256 * z + 2048 * u)
thirds_apart bs at x y z u p q r s a b c d =
    record { first = rw (← p) (omega arith); second = rw (← q) (omega arith); third = rw (← r) (omega arith); fourth = rw (← s) (omega arith) }
