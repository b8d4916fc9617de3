-- Counting the numbers that pass a test, and sums that differ at a few places.
use Rattle.std.proofs.Common.{◌≡◌, ℕ, zero, suc, ◌+◌, ◌*◌, ◌/◌, ◌<◌, Bool, true, false, cond, eqb, ◌≢◌, ◌⊎◌, sym, refl, ap, ◌∙◌, ⊎_elim, le_of_suc-le-suc, not-suc-le-zero, eq-or-lt_of_le, arith, eq-eqb, ne_eqb}
use borrow.Author.Tests.{eqb-false}
use Rattle.graph.specs.Finite.{sum, count}
use Rattle.moves.specs.Tree.{last}
use Rattle.graph.proofs.Cases.{true_or_false}
use Rattle.graph.proofs.Finite.{sum_but_one, sum_but_two}

-- a fact below n + 1 is one below n and one at n
pub last_or_below : {j n : ℕ} → j < suc n → (j ≡ n) ⊎ (j < n)
last_or_below h = eq-or-lt_of_le (le_of_suc-le-suc h)

pub clash : {b : Bool} → b ≡ true → b ≡ false → ⊥
clash p q = let z : ◌≡◌ {A = ℕ} 0 1 = sym (ap (λ (x : Bool). cond x 1 0) q) ∙ ap (λ (x : Bool). cond x 1 0) p in omega arith

module _ (t : ℕ → Bool) where
  pub count_pass : (n : ℕ) → t n ≡ true → count (suc n) t ≡ suc (count n t)
  unfolding count sum
  count_pass n e = rw e (omega arith)

  pub count_fail : (n : ℕ) → t n ≡ false → count (suc n) t ≡ count n t
  unfolding count sum
  count_fail n e = rw e (omega arith)

  pub count_none : (n : ℕ) → count n t ≡ 0 → (j : ℕ) → j < n → t j ≡ false
  count_none zero e j h = absurd (not-suc-le-zero h)
  count_none (suc n) e j h =
      ⊎_elim
      (λ (p : t n ≡ true). absurd (omega (arith, count_pass n p)))
      (λ (p : t n ≡ false). ⊎_elim (λ (q : j ≡ n). rw q p) (λ (q : j < n). count_none n (sym (count_fail n p) ∙ e) j q) (last_or_below h))
      (true_or_false (t n))

  -- the only number that passes
  pub record Only (n p : ℕ) : Type 0 where
    pub below : p < n
    pub passes : t p ≡ true
    pub only : (j : ℕ) → j < n → t j ≡ true → j ≡ p

  count_zero : count 0 t ≡ 0
  unfolding count sum
  count_zero = refl

  pub count_only : (n : ℕ) → count n t ≡ 1 → Only n (last n t)
  unfolding last
  count_only zero e = absurd (omega (arith, count_zero))
  count_only (suc n) e = go (count_only n)
    where
      go : (count n t ≡ 1 → Only n (last n t)) → Only (suc n) (cond (t n) n (last n t))
      go later =
          ⊎_elim
          (λ (p : t n ≡ true).
          let z = count_none n (omega (arith, count_pass n p)) in
          rw p (record { below = omega arith; passes = p; only = λ j h q. ⊎_elim (λ (s : j ≡ n). s) (λ (s : j < n). absurd (clash q (z j s))) (last_or_below h) }))
          (λ (p : t n ≡ false).
          let o = later (sym (count_fail n p) ∙ e) in
          rw p (record { below = omega (arith, o.below); passes = o.passes; only = λ j h q. ⊎_elim (λ (s : j ≡ n). absurd (clash (rw s at q) p)) (λ (s : j < n). o.only j s q) (last_or_below h) }))
          (true_or_false (t n))

pub sum_add : (n : ℕ) (f g : ℕ → ℕ) → sum n (λ j. f j + g j) ≡ sum n f + sum n g
unfolding sum
sum_add zero f g = refl
sum_add (suc n) f g = omega (arith, sum_add n f g)

-- two sums that agree but at the words of v
module _ (n : ℕ) (f g : ℕ → ℕ) (v : ℕ) (h : 3 * v + 2 < n) where
  pub sum_but_node : ((j : ℕ) → j < n → j / 3 ≢ v → f j ≡ g j)
      → sum n f + g (3 * v + 0) + g (3 * v + 1) + g (3 * v + 2) ≡ sum n g + f (3 * v + 0) + f (3 * v + 1) + f (3 * v + 2)
  sum_but_node e =
      let p : ℕ = 3 * v + 0 in
      let k : ℕ → ℕ = λ j. cond (eqb j p) (g j) (f j) in
      let kp : k p ≡ g p = rw (eq-eqb p p refl) in
      let kq : k (3 * v + 1) ≡ f (3 * v + 1) = rw (ne_eqb (3 * v + 1) p (omega arith)) in
      let kr : k (3 * v + 2) ≡ f (3 * v + 2) = rw (ne_eqb (3 * v + 2) p (omega arith)) in
      let s₁ = sum_but_one n f k p (omega arith) (λ j h z. sym (rw (ne_eqb j p z))) in
      let s₂ = sum_but_two n k g (3 * v + 1) (3 * v + 2) (omega arith) h (omega arith)
      (λ j h y z.
      ⊎_elim
      (λ (t : eqb j p ≡ true). rw t)
      (λ (t : eqb j p ≡ false). let t' = eqb-false j p t in rw t (e j h (λ q. t' (omega arith))))
      (true_or_false (eqb j p))) in
      omega arith

-- and at the place p
module _ (n : ℕ) (f g : ℕ → ℕ) (v p : ℕ) (h : 3 * v + 2 < n) (i : p < n) (d : p / 3 ≢ v) where
  pub sum_but_node_and_one : ((j : ℕ) → j < n → j / 3 ≢ v → j ≢ p → f j ≡ g j)
      → sum n f + g (3 * v + 0) + g (3 * v + 1) + g (3 * v + 2) + g p ≡ sum n g + f (3 * v + 0) + f (3 * v + 1) + f (3 * v + 2) + f p
  sum_but_node_and_one e =
      let k : ℕ → ℕ = λ j. cond (eqb j p) (g j) (f j) in
      let kp : k p ≡ g p = rw (eq-eqb p p refl) in
      let k₀ : k (3 * v + 0) ≡ f (3 * v + 0) = rw (ne_eqb (3 * v + 0) p (λ q. d (omega arith))) in
      let k₁ : k (3 * v + 1) ≡ f (3 * v + 1) = rw (ne_eqb (3 * v + 1) p (λ q. d (omega arith))) in
      let k₂ : k (3 * v + 2) ≡ f (3 * v + 2) = rw (ne_eqb (3 * v + 2) p (λ q. d (omega arith))) in
      let s₁ = sum_but_one n f k p i (λ j h z. sym (rw (ne_eqb j p z))) in
      let s₂ = sum_but_node n k g v h
      (λ j h y.
      ⊎_elim
      (λ (t : eqb j p ≡ true). rw t)
      (λ (t : eqb j p ≡ false). rw t (e j h y (eqb-false j p t)))
      (true_or_false (eqb j p))) in
      omega arith
