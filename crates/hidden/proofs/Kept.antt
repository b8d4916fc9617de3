-- The list of those kept: how long it is, that it has each at its place, and only those. Assumes nothing.
use mathlib.Core.Path.{◌≡◌, refl, sym, ◌∙◌}
use mathlib.Core.Bool.{Bool, true, false}
use mathlib.Core.Logic.{⊎_elim}
use mathlib.Core.List.{[], ◌∷◌, ◌++◌}
use Prim.Native.Nat.{ℕ, zero, suc, ◌≤◌, ◌<◌}
use native.Mathlib.Omega.{arith}
use native.Mathlib.Decide.{le_ind}
use lib.ListN.{length, get_or, length-append, get_or-append}
use lib.Seq.{get_or_at}
use Rattle.graph.proofs.Cases.{true_or_false, lt_or_le}
use Rattle.hidden.specs.Drop.{kept}

module _ (l : ℕ → Bool) where
  -- how many of the first n are kept
  unfoldable pub rank : ℕ → ℕ
  rank n = length (kept l n)

  pub rank_is : (n : ℕ) → rank n ≡ length (kept l n)
  unfolding rank
  rank_is n = refl

  kept_live : (n : ℕ) → l n ≡ true → kept l (suc n) ≡ kept l n ++ (n ∷ [])
  unfolding kept
  kept_live n e = rw e

  kept_dead : (n : ℕ) → l n ≡ false → kept l (suc n) ≡ kept l n
  unfolding kept
  kept_dead n e = rw e

  rank_live : (n : ℕ) → l n ≡ true → rank (suc n) ≡ suc (rank n)
  unfolding rank
  rank_live n e = rw (kept_live n e) (omega (arith, length-append (kept l n) (n ∷ [])))

  rank_dead : (n : ℕ) → l n ≡ false → rank (suc n) ≡ rank n
  unfolding rank
  rank_dead n e = rw (kept_dead n e)

  rank_step : (n : ℕ) → (rank n ≤ rank (suc n)) × (rank (suc n) ≤ suc (rank n))
  rank_step n =
      ⊎_elim (λ (e : l n ≡ true). omega (arith, rank_live n e)) (λ (e : l n ≡ false). omega (arith, rank_dead n e)) (true_or_false (l n))

  pub rank_mono : (m n : ℕ) → m ≤ n → rank m ≤ rank n
  rank_mono m n h = le_ind (λ (i : ℕ). rank m ≤ rank i) (omega arith) (λ i k s. omega (arith, rank_step i)) n h

  pub rank_le : (n : ℕ) → rank n ≤ n
  unfolding kept rank
  rank_le zero = omega arith
  rank_le (suc n) = omega (arith, rank_step n, rank_le n)

  pub rank_strict : (m n : ℕ) → m < n → l m ≡ true → rank m < rank n
  rank_strict m n h e = omega (arith, rank_live m e, rank_mono (suc m) n h)

  pub kept_at_lem : (m n : ℕ) → m < n → l m ≡ true → get_or (kept l n) (rank m) 0 ≡ m
  kept_at_lem m n h e =
      le_ind (λ (i : ℕ). get_or (kept l i) (rank m) 0 ≡ m)
      (rw (kept_live m e) (get_or_at (kept l m) m [] 0 (rank m) (sym (rank_is m))))
      (λ i k s.
      ⊎_elim
      (λ (q : l i ≡ true). rw (kept_live i q) (get_or-append (kept l i) (i ∷ []) 0 (rank m) (rw (← rank_is i) (rank_strict m i k e)) ∙ s))
      (λ (q : l i ≡ false). rw (kept_dead i q) s)
      (true_or_false (l i)))
      n h

  -- what stands at place j
  pub record Stands (n j k : ℕ) : Type 0 where
    pub lives : l k ≡ true
    pub within : k < n
    pub place : rank k ≡ j

  pub stands : (n j : ℕ) → j < rank n → Stands n j (get_or (kept l n) j 0)
  unfolding kept rank
  stands zero j h = absurd (omega arith)
  stands (suc n) j h =
      ⊎_elim
      (λ (q : l n ≡ true).
      ⊎_elim
      (λ (p : j < rank n).
      let s = stands n j p in
      rw (kept_live n q, get_or-append (kept l n) (n ∷ []) 0 j p) (record { lives = s.lives; within = omega (arith, s.within); place = s.place }))
      (λ (p : rank n ≤ j).
      let e : j ≡ rank n = omega (arith, rank_live n q) in
      rw (kept_live n q, get_or_at (kept l n) n [] 0 j (sym e)) (record { lives = q; within = omega arith; place = sym e }))
      (lt_or_le j (rank n)))
      (λ (q : l n ≡ false).
      let s = stands n j (omega (arith, rank_dead n q)) in
      rw (kept_dead n q) (record { lives = s.lives; within = omega (arith, s.within); place = s.place }))
      (true_or_false (l n))
