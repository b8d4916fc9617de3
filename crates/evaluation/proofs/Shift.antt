-- Words moved to the front one by one: those moved, and those left. From the laws of a list that is set.
use mathlib.Core.Path.{◌≡◌, refl, sym, ◌∙◌}
use mathlib.Core.List.{List}
use mathlib.Core.Logic.{⊎_elim, ◌≢◌}
use Prim.Native.Nat.{ℕ, ◌+◌, ◌≤◌, ◌<◌}
use native.Mathlib.Omega.{arith}
use lib.ListN.{length, get_or, take, drop, set, length-set, length-drop}
use lib.Seq.{ext_get_or, get_or-set_same, get_or-set_other, get_or-take, get_or-drop, length-take-le}
use Rattle.graph.proofs.Cases.{eq_or_ne}

pub record Shifted (first : ℕ) (s t : List ℕ) (k : ℕ) : Type 0 where
  pub same : length t ≡ length s
  pub moved : (i : ℕ) → i < k → get_or t i 0 ≡ get_or s (first + i) 0
  pub left : (i : ℕ) → k ≤ i → get_or t i 0 ≡ get_or s i 0

module _ (first : ℕ) (s : List ℕ) where
  pub shift_none : Shifted first s s 0
  shift_none = record { same = refl; moved = λ i h. absurd (omega arith); left = λ i h. refl }

  pub shift_more : (t : List ℕ) (k : ℕ) → k < length s → Shifted first s t k → Shifted first s (set t k (get_or t (first + k) 0)) (k + 1)
  shift_more t k h f =
      record {
        same = length-set t k _ ∙ f.same;
        moved = λ i l.
            ⊎_elim
            (λ (e : i ≡ k). rw e (get_or-set_same t k _ 0 (omega (arith, f.same)) ∙ f.left (first + k) (omega arith)))
            (λ (n : i ≢ k). get_or-set_other t k i _ 0 n ∙ f.moved i (omega arith))
            (eq_or_ne i k);
        left = λ i l. get_or-set_other t k i _ 0 (λ e. omega arith) ∙ f.left i (omega arith);
      }

  pub shift_all : (t : List ℕ) (k : ℕ) → first + k ≤ length s → Shifted first s t k → take k t ≡ take k (drop first s)
  shift_all t k h f =
      let a = length-take-le k t (omega (arith, f.same)) in
      let b = length-take-le k (drop first s) (omega (arith, length-drop first s)) in
      ext_get_or 0 _ _ (a ∙ sym b)
      (λ i l.
      let q : i < k = omega arith in
      get_or-take k t i 0 q ∙ f.moved i q ∙ sym (get_or-take k (drop first s) i 0 q ∙ get_or-drop first s i 0))
