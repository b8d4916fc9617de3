-- Big-endian numbers: the bytes of a number say that number, and four bytes are those of the number that they say. Assumes nothing.
use Prim.Native.Nat.{ℕ, suc, ◌+◌, ◌*◌, ◌/◌, ◌%◌, ◌<◌, ◌≤◌}
use mathlib.Core.Path.{◌≡◌, refl, ap, ◌∙◌}
use mathlib.Core.List.{List, [], ◌∷◌, ◌++◌}
use native.Mathlib.Omega.{arith}
use lib.ListN.{length, get_or, drop}
use lib.Seq.{drop-cons, get_or-drop}
use Rattle.file_checks.specs.File.{be4}
use Rattle.tagged_file.specs.Write.{big}
use Rattle.tagged_file.specs.Promises.{Bytes}

pub bytes_drop : (k : ℕ) (s : List ℕ) → Bytes s → Bytes (drop k s)
bytes_drop k s h i = rw (get_or-drop k s i 0) (h (k + i))

-- the last byte of a number and what stands before it
last_byte : (q r : ℕ) → r < 256 → (q * 256 + r) % 256 ≡ r
last_byte q r h = omega arith

front_bytes : (q r : ℕ) → r < 256 → (q * 256 + r) / 256 ≡ q
front_bytes q r h = omega arith

only_byte : (r : ℕ) → r < 256 → r % 256 ≡ r
only_byte r h = omega arith

big_of : (a b d e : ℕ) → a < 256 → b < 256 → d < 256 → e < 256 → big 4 (((a * 256 + b) * 256 + d) * 256 + e) ≡ a ∷ b ∷ d ∷ e ∷ []
unfolding big
big_of a b d e ha hb hd he =
    let x : ℕ = a * 256 + b in
    let y : ℕ = x * 256 + d in
    rw (front_bytes y e he, last_byte y e he, front_bytes x d hd, last_byte x d hd, front_bytes a b hb, last_byte a b hb, only_byte a ha)

-- one byte further on
pub next : (s : List ℕ) (at at' : ℕ) → at' ≡ at + 1 → at < length s → drop at s ≡ get_or s at 0 ∷ drop at' s
next s at at' e h = let q : suc at ≡ at' = omega arith in drop-cons s at 0 h ∙ ap (λ (n : ℕ). get_or s at 0 ∷ drop n s) q

-- four bytes are those of the number that they say
pub four_bytes : (s : List ℕ) (at : ℕ) → Bytes s → at + 4 ≤ length s → drop at s ≡ big 4 (be4 s at) ++ drop (at + 4) s
unfolding be4
four_bytes s at h l =
    let n₀ = next s at (at + 1) refl (omega arith) in
    let n₁ = next s (at + 1) (at + 2) (omega arith) (omega arith) in
    let n₂ = next s (at + 2) (at + 3) (omega arith) (omega arith) in
    let n₃ = next s (at + 3) (at + 4) (omega arith) (omega arith) in
    let b = big_of (get_or s at 0) (get_or s (at + 1) 0) (get_or s (at + 2) 0) (get_or s (at + 3) 0) (h at) (h (at + 1)) (h (at + 2)) (h (at + 3)) in
    rw (n₀, n₁, n₂, n₃, b)

-- and back
pub big_says : (n : ℕ) → n < 4294967296
    → ((n / 256 / 256 / 256 % 256 * 256 + n / 256 / 256 % 256) * 256 + n / 256 % 256) * 256 + n % 256 ≡ n
big_says n h =
    let q₁ : ℕ = n / 256 in
    let q₂ : ℕ = q₁ / 256 in
    let q₃ : ℕ = q₂ / 256 in
    let l : q₃ < 256 = omega arith in
    let e₃ : q₃ % 256 ≡ q₃ = only_byte q₃ l in
    let e₂ : q₃ * 256 + q₂ % 256 ≡ q₂ = omega arith in
    let e₁ : q₂ * 256 + q₁ % 256 ≡ q₁ = omega arith in
    let e₀ : q₁ * 256 + n % 256 ≡ n = omega arith in
    rw (e₃, e₂, e₁, e₀)
