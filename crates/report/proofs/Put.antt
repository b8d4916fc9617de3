-- Texts put one after another into a buffer: where there is room for both there is room for each, and the two are one text.
-- From the laws on runs of stores.
use mathlib.Core.Path.{◌≡◌, refl, sym, ap, ◌∙◌}
use mathlib.Core.List.{List, [], ◌∷◌, ◌++◌}
use Prim.Native.Nat.{ℕ, ◌+◌, ◌-◌, ◌≤◌, ◌<◌}
use native.Mathlib.Omega.{arith}
use lib.ListN.{length, drop, length-append}
use lib.Seq.{sets, sets-eq, drop-drop}
use borrow.Rule.Slice.PartMut.{put_mid}
use Rattle.std.proofs.Common.{append_assoc, take}
use Rattle.tagged_file.proofs.Stores.{in_a_row}
use Rattle.tagged_file.proofs.Emitted.{Left, left_more}

-- a text copied to place i
pub copied : (b : List ℕ) (i n : ℕ) (text ys : List ℕ) → ys ≡ text → n ≡ length text → i + length text ≤ length b → put_mid i n b ys ≡ sets b i text
copied b i n text ys e l h = rw (e, l, drop-drop) (sym (sets-eq text b i h ∙ append_assoc (take i b) text (drop (i + length text) b)))

-- room for two is room for each
pub room_first : (a b : List ℕ) (at n : ℕ) → at + length (a ++ b) ≤ n → at + length a ≤ n
room_first a b at n h = omega (arith, length-append a b)

pub room_rest : (a b : List ℕ) (at middle n m : ℕ) → at + length (a ++ b) ≤ n → middle ≡ at + length a → m ≡ n → middle + length b ≤ m
room_rest a b at middle n m h e s = omega (arith, length-append a b)

-- room for a text and a byte after it
pub room_byte : (a : List ℕ) (x at middle n : ℕ) → at + length (a ++ (x ∷ [])) ≤ n → middle ≡ at + length a → middle < n
room_byte a x at middle n h e = omega (arith, length-append a (x ∷ []))

-- a line that is put, by another name and with a bound
pub put_as : (t t' line line' : List ℕ) (at r n : ℕ) → line ≡ line' → length line ≤ n → (r ≡ at + length line) × (t' ≡ sets t at line)
    → (r ≡ at + length line') × (r ≤ at + n) × (t' ≡ sets t at line')
put_as t t' line line' at r n e l h = let q = h.0 in (omega (arith, ap length e), omega arith, h.1 ∙ ap (sets t at) e)

-- from the front of the buffer
pub put_front : (t t' line line' : List ℕ) (r : ℕ) → line ≡ line' → (r ≡ 0 + length line) × (t' ≡ sets t 0 line) → (r ≡ length line') × (t' ≡ sets t 0 line')
put_front t t' line line' r e h = let q = h.0 in (omega (arith, ap length e), h.1 ∙ ap (sets t 0) e)

pub two_lines : (t t₁ t₂ a b : List ℕ) (middle end n m : ℕ) → length a ≤ n → length b ≤ m → (middle ≡ 0 + length a) × (t₁ ≡ sets t 0 a)
    → (end ≡ middle + length b) × (t₂ ≡ sets t₁ middle b) → (end ≡ length (a ++ b)) × (end ≤ n + m) × (t₂ ≡ sets t 0 (a ++ b))
two_lines t t₁ t₂ a b middle end n m ha hb h k =
    let r = in_a_row t t₁ t₂ a b 0 middle end h k in
    let f = put_front t t₂ (a ++ b) (a ++ b) end refl r in
    let q = h.0 in
    let p = k.0 in
    (f.0, omega arith, f.1)

-- three parts, from the front of the buffer
pub three_parts : (t t₁ t₂ t₃ a b c : List ℕ) (first middle end : ℕ) → first ≡ length a → t₁ ≡ sets t 0 a → middle ≡ first + length b
    → t₂ ≡ sets t₁ first b → (end ≡ middle + length c) × (t₃ ≡ sets t₂ middle c) → (end ≡ length (a ++ (b ++ c))) × (t₃ ≡ sets t 0 (a ++ (b ++ c)))
three_parts t t₁ t₂ t₃ a b c first middle end e₁ s₁ e₂ s₂ h =
    put_front t t₃ (a ++ (b ++ c)) (a ++ (b ++ c)) end refl
    (in_a_row t t₁ t₃ a (b ++ c) 0 first end (omega arith, s₁) (in_a_row t₁ t₂ t₃ b c first middle end (e₂, s₂) h))

-- of n lines in a row one more is put
pub left_next : (f : ℕ → List ℕ) (n start : ℕ) (t₀ t : List ℕ) (at v : ℕ) → Left f n start t₀ t at v (n - v) → v < n → (t' : List ℕ) (at' : ℕ) → t' ≡ sets t at (f v) → at' ≡ at + length (f v)
    → Left f n start t₀ t' at' (v + 1) (n - (v + 1))
left_next f n start t₀ t at v i h t' at' et ea =
    let e : n - (v + 1) ≡ n - v - 1 = omega arith in
    rw e (left_more f n start t₀ t at v (n - v) i (omega arith) t' at' et ea)
