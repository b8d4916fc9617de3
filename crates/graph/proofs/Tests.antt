-- A value that goes by tests, met at the end of a way through the code (what each test on the way said is a premise), and
-- back: what a value that comes to 0 says of its tests. Assumes nothing.
use Rattle.std.proofs.Common.{◌≡◌, ℕ, zero, suc, ◌<◌, ◌≤◌, Bool, true, false, cond, eqb, ltb, sym, refl, ◌∙◌, ⊎_elim, le_of_suc-le-suc, not-suc-le-zero, eq-or-lt_of_le, arith, ltb-false, ltb-true, le-ltb, lt-ltb, eq-eqb, ne_eqb, eqb-true}
use Rattle.graph.specs.Finite.{if_less, if_equal, first, first_of}

module _ {A : Type 0} {k : A} (a b : ℕ) (x y : A) where
  pub less : a < b → k ≡ x → k ≡ if_less a b x y
  unfolding if_less
  less h e = simp (lt-ltb a b h) e

  pub no_less : b ≤ a → k ≡ y → k ≡ if_less a b x y
  unfolding if_less
  no_less h e = simp (le-ltb a b h) e

  pub equal : a ≡ b → k ≡ x → k ≡ if_equal a b x y
  unfolding if_equal
  equal h e = simp (eq-eqb a b h) e

  pub unequal : (a ≡ b → ⊥) → k ≡ y → k ≡ if_equal a b x y
  unfolding if_equal
  unequal h e = simp (ne_eqb a b h) e

-- a slice of b where n are due
pub short_slice : (b n : ℕ) → b < n → ◌≡◌ {A = ℕ} 4 (if_less b n 4 0)
short_slice b n h = less b n 4 0 h refl

pub long_slice : (b n : ℕ) → n ≤ b → ◌≡◌ {A = ℕ} 0 (if_less b n 4 0)
long_slice b n h = no_less b n 4 0 h refl

-- the first of two faults is there, or is not
pub fault : {k : ℕ} (a b : ℕ) → k ≡ a → (a ≡ 0 → ⊥) → k ≡ first a b
unfolding first
fault zero b e n = absurd (n refl)
fault (suc a) b e n = e

pub none : {k : ℕ} (a b : ℕ) → a ≡ 0 → k ≡ b → k ≡ first a b
unfolding first
none zero b z e = e
none (suc a) b z e = absurd (omega arith)

-- the first of three faults, by twos
pub first_first : (a b d : ℕ) → first (first a b) d ≡ first a (first b d)
unfolding first
first_first zero b d = refl
first_first (suc a) b d = refl

-- and back: a chain of tests that comes to 0 has gone by each of its faults
off_by : (t : Bool) (a b k x : ℕ) → ltb a b ≡ t → if_less a b (suc k) x ≡ 0 → (b ≤ a) × (x ≡ 0)
unfolding if_less
off_by true a b k x q e = absurd (omega (arith, simp q at e))
off_by false a b k x q e = (ltb-false a b q, simp q at e)

pub off : (a b k x : ℕ) → if_less a b (suc k) x ≡ 0 → (b ≤ a) × (x ≡ 0)
off a b k x e = off_by (ltb a b) a b k x refl e

on_by : (t : Bool) (a b k x : ℕ) → ltb a b ≡ t → if_less a b x (suc k) ≡ 0 → (a < b) × (x ≡ 0)
unfolding if_less
on_by true a b k x q e = (ltb-true a b q, simp q at e)
on_by false a b k x q e = absurd (omega (arith, simp q at e))

pub on : (a b k x : ℕ) → if_less a b x (suc k) ≡ 0 → (a < b) × (x ≡ 0)
on a b k x e = on_by (ltb a b) a b k x refl e

is_by : (t : Bool) (a b k x : ℕ) → eqb a b ≡ t → if_equal a b x (suc k) ≡ 0 → (a ≡ b) × (x ≡ 0)
unfolding if_equal
is_by true a b k x q e = (eqb-true a b q, simp q at e)
is_by false a b k x q e = absurd (omega (arith, simp q at e))

pub is : (a b k x : ℕ) → if_equal a b x (suc k) ≡ 0 → (a ≡ b) × (x ≡ 0)
is a b k x e = is_by (eqb a b) a b k x refl e

pub both : (a b : ℕ) → first a b ≡ 0 → (a ≡ 0) × (b ≡ 0)
unfolding first
both zero b e = (refl, e)
both (suc a) b e = absurd (omega arith)

-- a walk W that is due to come to T, and whose next step is a and then R: it stops at a's fault, or it goes on
pub stops : {k W T : ℕ} (a R : ℕ) → W ≡ T → W ≡ first a R → k ≡ a → (k ≡ 0 → ⊥) → k ≡ T
stops a R w s e n = fault a R e (λ z. n (e ∙ z)) ∙ sym s ∙ w

pub goes : {W T : ℕ} (a R : ℕ) → W ≡ T → W ≡ first a R → a ≡ 0 → R ≡ T
goes a R w s z = none a R z refl ∙ sym s ∙ w

-- a fault that a test keeps off
pub passes : (b : Bool) (k : ℕ) → cond b 0 (suc k) ≡ 0 → b ≡ true
passes true k e = refl
passes false k e = absurd (omega arith)

-- the first fault of several: none where each is none, and back; and one that comes after none is it
pub all_none : (n : ℕ) (f : ℕ → ℕ) → ((j : ℕ) → j < n → f j ≡ 0) → first_of n f ≡ 0
unfolding first_of
all_none zero f h = refl
all_none (suc n) f h = sym (none (first_of n f) (f n) (all_none n f (λ j l. h j (omega arith))) (sym (h n (omega arith))))

pub each_none : (n : ℕ) (f : ℕ → ℕ) → first_of n f ≡ 0 → (j : ℕ) → j < n → f j ≡ 0
unfolding first_of
each_none zero f e j h = absurd (not-suc-le-zero h)
each_none (suc n) f e j h =
    let b = both (first_of n f) (f n) e in
    ⊎_elim (λ (q : j ≡ n). rw q b.1) (λ (l : j < n). each_none n f b.0 j l) (eq-or-lt_of_le (le_of_suc-le-suc h))

pub first_at : (n : ℕ) (f : ℕ → ℕ) (i k : ℕ) → i < n → first_of i f ≡ 0 → f i ≡ suc k → first_of n f ≡ suc k
unfolding first_of
first_at zero f i k h z e = absurd (not-suc-le-zero h)
first_at (suc n) f i k h z e =
    ⊎_elim
    (λ (q : i ≡ n). rw (← q) (sym (none (first_of i f) (f i) z (sym e))))
    (λ (l : i < n). sym (fault (first_of n f) (f n) (sym (first_at n f i k l z e)) (λ y. omega (arith, first_at n f i k l z e))))
    (eq-or-lt_of_le (le_of_suc-le-suc h))
