-- The list that a node's words fill is the definition's, and what rises in it. From the laws on what is near.
use mathlib.Core.Path.{◌≡◌, refl, sym, ◌∙◌}
use mathlib.Core.Bool.{false}
use mathlib.Core.Logic.{⊎_elim}
use mathlib.Core.List.{List, [], ◌∷◌}
use Prim.Native.Nat.{ℕ, zero, suc, ◌-◌, ◌≤◌, ◌<◌}
use native.Mathlib.Omega.{arith}
use borrow.Author.Tests.{ne_eqb}
use lib.ListN.{length, get_or, take}
use lib.Seq.{get_or-take, length-take-le}
use Rattle.graph.specs.Graph.{Graph}
use Rattle.graph.proofs.Cases.{lt_or_le}
use Rattle.hidden.specs.Find.{reaches, near_below, near}
use Rattle.hidden.specs.Truth.{triple}
use Rattle.hidden.specs.Inner.{Between, Rising, has}
use Rattle.hidden.proofs.Pass.{near_between}
use Rattle.hidden.proofs.Near.{near_has, has_low, rising_only}
use Rattle.finder.specs.Nearness.{Grown}

has_high : (lo hi i : ℕ) (l : List ℕ) → Between lo hi l → hi ≤ i → has i l ≡ false
has_high lo hi i [] b h = refl
has_high lo hi i (x ∷ xs) b h = rw (ne_eqb i x (λ e. omega arith)) (has_high x hi i xs b.2 h)

pub near_is : (g : Graph) (c u r : ℕ) (xs xs' : List ℕ) → 0 < u → Grown c u (reaches g 3 u) 0 r xs xs' → (take r xs' ≡ near g u) × Between 0 u (take r xs')
unfolding near
near_is g c u r xs xs' p a =
    let e : suc (u - 1) ≡ u = omega arith in
    let f : Between 0 u (take r xs') = a.rising u (omega arith) tt in
    let n : Between 0 u (near_below g u (u - 1)) = rw e at (near_between g u (u - 1)) in (
      rising_only 0 u (take r xs') (near_below g u (u - 1)) f n
          (λ i.
          ⊎_elim
          (λ (z : 0 < i).
          ⊎_elim
          (λ (h : i < u). a.members i z ∙ sym (near_has g u (u - 1) i z (omega arith)))
          (λ (h : u ≤ i). has_high 0 u i (take r xs') f h ∙ sym (has_high 0 u i (near_below g u (u - 1)) n h))
          (lt_or_le i u))
          (λ (z : i ≤ 0). has_low 0 u i (take r xs') f z ∙ sym (has_low 0 u i (near_below g u (u - 1)) n z))
          (lt_or_le 0 i)),
      f,
    )

-- what stands at the places of a rising list
pub between_at : (lo hi : ℕ) (l : List ℕ) (k : ℕ) → Between lo hi l → k < length l → (lo < get_or l k 0) × (get_or l k 0 < hi)
between_at lo hi [] k b h = absurd (omega arith)
between_at lo hi (x ∷ xs) zero b h = (b.0, b.1)
between_at lo hi (x ∷ xs) (suc k) b h = let r = between_at x hi xs k b.2 (omega arith) in (omega (arith, b.0, r.0), r.1)

pub between_rise : (lo hi : ℕ) (l : List ℕ) (j k : ℕ) → Between lo hi l → j < k → k < length l → get_or l j 0 < get_or l k 0
between_rise lo hi [] j k b d h = absurd (omega arith)
between_rise lo hi (x ∷ xs) zero zero b d h = absurd (omega arith)
between_rise lo hi (x ∷ xs) zero (suc k) b d h = (between_at x hi xs k b.2 (omega arith)).0
between_rise lo hi (x ∷ xs) (suc j) zero b d h = absurd (omega arith)
between_rise lo hi (x ∷ xs) (suc j) (suc k) b d h = between_rise x hi xs j k b.2 (omega arith) (omega arith)

-- in the first m places of a slice, and the three at three of them
module _ (u m : ℕ) (l : List ℕ) (long : m ≤ length l) (rising : Between 0 u (take m l)) where
  len : length (take m l) ≡ m
  len = length-take-le m l long

  pub place_low : (k : ℕ) → k < m → (0 < get_or l k 0) × (get_or l k 0 < u)
  place_low k h = rw (← get_or-take m l k 0 h) (between_at 0 u (take m l) k rising (omega (arith, len)))

  pub places_rise : (j k : ℕ) → j < k → k < m → get_or l j 0 < get_or l k 0
  places_rise j k d h = rw (← get_or-take m l j 0 (omega arith), ← get_or-take m l k 0 h) (between_rise 0 u (take m l) j k rising d (omega (arith, len)))

  pub three_rise : (a b c : ℕ) → a < b → b < c → c < m → Rising (triple (get_or l a 0) (get_or l b 0) (get_or l c 0)) u
  three_rise a b c h k q = record { positive = (place_low a (omega arith)).0; second = places_rise a b h (omega arith); third = places_rise b c k q; below = (place_low c q).1 }
