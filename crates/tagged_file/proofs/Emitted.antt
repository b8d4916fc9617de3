-- Fields written one after another: those that are left come to the whole. From the laws on runs of stores.
use Prim.Native.Nat.{ℕ, zero, suc, ◌+◌, ◌-◌, ◌<◌, ◌≤◌}
use mathlib.Core.Path.{◌≡◌, refl, sym, ap, ◌∙◌}
use mathlib.Core.List.{List, [], ◌++◌, append_assoc, append-nil}
use native.Mathlib.Omega.{arith}
use lib.ListN.{length, length-append}
use lib.Seq.{sets, length-sets}
use Rattle.tagged_file.proofs.Stores.{sets_append}
use Rattle.tagged_file.specs.Write.{in_order}

pub in_order_step : (f : ℕ → List ℕ) (v n : ℕ) → 0 < n → in_order f v n ≡ f v ++ in_order f (v + 1) (n - 1)
in_order_step f v zero h = absurd (omega arith)
in_order_step f v (suc n) h = let e : suc n - 1 ≡ n = omega arith in rw e

-- those from number v on, of n
pub in_order_next : (f : ℕ → List ℕ) (v n : ℕ) → v < n → in_order f v (n - v) ≡ f v ++ in_order f (v + 1) (n - (v + 1))
in_order_next f v n h = let e : n - v ≡ suc (n - (v + 1)) = omega arith in rw e

pub in_order_none : (f : ℕ → List ℕ) (v n : ℕ) → n ≤ v → in_order f v (n - v) ≡ []
in_order_none f v n h = let e : n - v ≡ 0 = omega arith in rw e

-- the last of some
pub in_order_last : (f : ℕ → List ℕ) (v n : ℕ) → in_order f v (suc n) ≡ in_order f v n ++ f (v + n)
in_order_last f v zero = let z : v + 0 ≡ v = omega arith in rw z (append-nil _)
in_order_last f v (suc n) =
    let s : v + 1 + n ≡ v + suc n = omega arith in
    rw (in_order_last f (v + 1) n, s) (simp append_assoc)

-- n fields f, from the place start on: those that are left, from number v and the place at on, come to the whole
pub record Left (f : ℕ → List ℕ) (n start : ℕ) (t₀ t : List ℕ) (at v left : ℕ) : Type 0 where
  pub counted : v + left ≡ n
  pub fits : at + length (in_order f v left) ≡ start + length (in_order f 0 n)
  pub same : length t ≡ length t₀
  pub bytes : sets t at (in_order f v left) ≡ sets t₀ start (in_order f 0 n)

module _ (f : ℕ → List ℕ) (n start : ℕ) (t₀ t : List ℕ) (at v left : ℕ) (i : Left f n start t₀ t at v left) where
  pub left_room : 0 < left → start + length (in_order f 0 n) ≤ length t₀ → at + length (f v) ≤ length t
  left_room h r = omega (arith, i.fits, i.same, ap length (in_order_step f v left h), length-append (f v) (in_order f (v + 1) (left - 1)))

  pub left_more : 0 < left → (t' : List ℕ) (at' : ℕ) → t' ≡ sets t at (f v) → at' ≡ at + length (f v) → Left f n start t₀ t' at' (v + 1) (left - 1)
  left_more h t' at' et ea =
      let e = in_order_step f v left h in
      record {
        counted = omega (arith, i.counted);
        fits = omega (arith, i.fits, ap length e, length-append (f v) (in_order f (v + 1) (left - 1)));
        same = ap length et ∙ length-sets t at (f v) ∙ i.same;
        bytes = rw et (sets_append (f v) (in_order f (v + 1) (left - 1)) t at at' ea ∙ ap (sets t at) (sym e) ∙ i.bytes);
      }

  pub left_none : left ≤ 0 → (at ≡ start + length (in_order f 0 n)) × (t ≡ sets t₀ start (in_order f 0 n))
  left_none h =
      let z : left ≡ 0 = omega arith in
      let fits : at + length (in_order f v 0) ≡ start + length (in_order f 0 n) = rw z at i.fits in
      let bytes : sets t at (in_order f v 0) ≡ sets t₀ start (in_order f 0 n) = rw z at i.bytes in
      (omega arith, bytes)

-- the same of n fields from number v on
pub left_start : (f : ℕ → List ℕ) (n start : ℕ) (t₀ : List ℕ) → Left f n start t₀ t₀ start 0 (n - 0)
left_start f n start t₀ = let e : n - 0 ≡ n = omega arith in rw e (record { counted = omega arith; fits = refl; same = refl; bytes = refl })

pub left_next : (f : ℕ → List ℕ) (n start : ℕ) (t₀ t : List ℕ) (at v : ℕ) → Left f n start t₀ t at v (n - v) → v < n → (t' : List ℕ) (at' : ℕ)
    → t' ≡ sets t at (f v) → at' ≡ at + length (f v) → Left f n start t₀ t' at' (v + 1) (n - (v + 1))
left_next f n start t₀ t at v i h t' at' et ea =
    let e : n - v - 1 ≡ n - (v + 1) = omega arith in
    rw e at (left_more f n start t₀ t at v (n - v) i (omega arith) t' at' et ea)
