-- How many numbers pass a test from the front on: what that number says, and that no other says it.
use mathlib.Core.Path.{◌≡◌, refl, sym, ap, ◌∙◌}
use mathlib.Core.Bool.{Bool, true, false, cond}
use mathlib.Core.Logic.{⊎_elim}
use Prim.Native.Nat.{ℕ, zero, suc, ◌+◌, ◌-◌, ◌≤◌, ◌<◌}
use native.Mathlib.Omega.{arith}
use Rattle.graph.proofs.Cases.{cond_le, true_or_false, lt_or_le}
use Rattle.moves.proofs.Count.{clash}
use Rattle.compare.specs.Compare.{passing}

pub passing_le : (n : ℕ) (t : ℕ → Bool) → passing n t ≤ n
unfolding passing
passing_le zero t = omega arith
passing_le (suc n) t = cond_le (t 0) (suc (passing n (λ j. t (suc j)))) 0 (suc n) (omega (arith, passing_le n (λ j. t (suc j)))) (omega arith)

-- all before it pass, and it does not
head : (b : Bool) (k j : ℕ) → j < cond b (suc k) 0 → (b ≡ true) × (j ≤ k)
head true k j h = (refl, omega arith)
head false k j h = absurd (omega arith)

pub passing_each : (n : ℕ) (t : ℕ → Bool) (j : ℕ) → j < passing n t → t j ≡ true
unfolding passing
passing_each zero t j h = absurd (omega arith)
passing_each (suc n) t zero h = (head (t 0) (passing n (λ i. t (suc i))) 0 h).0
passing_each (suc n) t (suc j) h = passing_each n (λ i. t (suc i)) j (omega (arith, (head (t 0) (passing n (λ i. t (suc i))) (suc j) h).1))

pub passing_end : (n : ℕ) (t : ℕ → Bool) → passing n t < n → t (passing n t) ≡ false
unfolding passing
passing_end zero t h = absurd (omega arith)
passing_end (suc n) t h =
    let more : ℕ = passing n (λ i. t (suc i)) in
    ⊎_elim
    (λ (e : t 0 ≡ true).
    let q : passing (suc n) t ≡ suc more = ap (λ (b : Bool). cond b (suc more) 0) e in
    ap t q ∙ passing_end n (λ i. t (suc i)) (omega (arith, h, q)))
    (λ (e : t 0 ≡ false).
    let q : passing (suc n) t ≡ 0 = ap (λ (b : Bool). cond b (suc more) 0) e in
    ap t q ∙ e)
    (true_or_false (t 0))

-- the only number of which both hold
pub passing_is : (n : ℕ) (t : ℕ → Bool) (k : ℕ) → k ≤ n → ((j : ℕ) → j < k → t j ≡ true) → (k < n → t k ≡ false) → k ≡ passing n t
unfolding passing
passing_is zero t k l a s = omega arith
passing_is (suc n) t zero l a s = rw (s (omega arith))
passing_is (suc n) t (suc k) l a s = rw (a 0 (omega arith)) (ap suc (passing_is n (λ j. t (suc j)) k (omega arith) (λ j h. a (suc j) (omega arith)) (λ h. s (omega arith))))

-- whatever passes from the front on is no more
pub passing_most : (n : ℕ) (t : ℕ → Bool) (k : ℕ) → k ≤ n → ((j : ℕ) → j < k → t j ≡ true) → k ≤ passing n t
passing_most n t k l a =
    ⊎_elim
    (λ (h : passing n t < k). absurd (clash (a (passing n t) h) (passing_end n t (omega arith))))
    (λ (h : k ≤ passing n t). h)
    (lt_or_le (passing n t) k)

pub passing_same : (n : ℕ) (s t : ℕ → Bool) → ((j : ℕ) → j < n → s j ≡ t j) → passing n s ≡ passing n t
unfolding passing
passing_same zero s t e = refl
passing_same (suc n) s t e = rw (e 0 (omega arith), passing_same n (λ j. s (suc j)) (λ j. t (suc j)) (λ j h. e (suc j) (omega arith)))

-- of two stretches in a row: the first is where it stops, or all of it passes
module _ (a b : ℕ) (t : ℕ → Bool) where
  pub first_stops : passing a t < a → passing a t ≡ passing (a + b) t
  first_stops h = passing_is (a + b) t (passing a t) (omega arith) (passing_each a t) (λ l. passing_end a t h)

  pub both_pass : passing a t ≡ a → a + passing b (λ j. t (a + j)) ≡ passing (a + b) t
  both_pass e =
      let r : ℕ = passing b (λ j. t (a + j)) in
      passing_is (a + b) t (a + r) (omega (arith, passing_le b (λ j. t (a + j))))
      (λ j h.
      ⊎_elim
      (λ (l : j < a). passing_each a t j (omega arith))
      (λ (l : a ≤ j).
      let q : a + (j - a) ≡ j = omega arith in
      sym (ap t q) ∙ passing_each b (λ i. t (a + i)) (j - a) (omega arith))
      (lt_or_le j a))
      (λ l. passing_end b (λ i. t (a + i)) (omega arith))
