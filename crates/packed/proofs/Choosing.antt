-- Numbers and outcomes that go by a test come to the same where they do when the test is passed. Assumes nothing.
use mathlib.Core.Path.{◌≡◌, refl}
use mathlib.Core.Bool.{Bool, true, false, cond}
use Prim.Native.Nat.{ℕ, zero, suc, ◌<◌}
use native.Mathlib.Omega.{arith}
use borrow.Author.Tests.{eqb-true}
use lib.Dec.{ltb, eqb}
use Rattle.graph.specs.Answer.{Answer, Outcome, outcome, unless, guarded}
use Rattle.graph.specs.Finite.{if_less, if_equal, first, first_of}
use Rattle.graph.specs.Graph.{Graph}
use Rattle.moves.specs.Tree.{last}
use Rattle.packed.specs.Old.{trimmed}

-- what a call leaves, its graph trimmed
abbrev pub trimmed_outcome : Outcome → Outcome
trimmed_outcome o = outcome o.answer (trimmed o.graph)

pub cond_when : {A : Type 0} (b : Bool) (x y z : A) → (b ≡ true → x ≡ y) → cond b x z ≡ cond b y z
cond_when true x y z h = h refl
cond_when false x y z h = refl

pub if_equal_when : {A : Type 0} (a b : ℕ) (x y z : A) → (a ≡ b → x ≡ y) → if_equal a b x z ≡ if_equal a b y z
unfolding if_equal
if_equal_when a b x y z h = cond_when (eqb a b) x y z (λ e. h (eqb-true a b e))

pub cond_both : {A : Type 0} (b : Bool) (x y p q : A) → (b ≡ true → x ≡ p) → (b ≡ false → y ≡ q) → cond b x y ≡ cond b p q
cond_both true x y p q h k = h refl
cond_both false x y p q h k = k refl

-- a function of what a test chooses
pub cond_ap : {A B : Type 0} (f : A → B) (b : Bool) (x y : A) (z : B) → (b ≡ true → z ≡ f x) → cond b z (f y) ≡ f (cond b x y)
cond_ap f true x y z h = h refl
cond_ap f false x y z h = refl

pub if_less_ap : {A B : Type 0} (f : A → B) (a b : ℕ) (x y : A) → if_less a b (f x) (f y) ≡ f (if_less a b x y)
unfolding if_less
if_less_ap f a b x y = cond_ap f (ltb a b) x y (f x) (λ e. refl)

-- what is read of both branches alike is read alike of the chosen one
pub if_equal_read : {A B : Type 0} (f : A → B) (a b : ℕ) (x y p q : A) → f x ≡ f y → f p ≡ f q → f (if_equal a b x p) ≡ f (if_equal a b y q)
unfolding if_equal
if_equal_read f a b x y p q h k = read (eqb a b)
  where
    read : (t : Bool) → f (cond t x p) ≡ f (cond t y q)
    read true = h
    read false = k

pub first_when : (a b c : ℕ) → (a ≡ 0 → b ≡ c) → first a b ≡ first a c
unfolding first
first_when zero b c h = h refl
first_when (suc a) b c h = refl

pub first_of_same : (n : ℕ) (f h : ℕ → ℕ) → ((j : ℕ) → j < n → f j ≡ h j) → first_of n f ≡ first_of n h
unfolding first_of
first_of_same zero f h e = refl
first_of_same (suc n) f h e = rw (first_of_same n f h (λ j l. e j (omega arith)), e n (omega arith))

pub last_same : (n : ℕ) (s t : ℕ → Bool) → ((j : ℕ) → j < n → s j ≡ t j) → last n s ≡ last n t
unfolding last
last_same zero s t e = refl
last_same (suc n) s t e = rw (last_same n s t (λ j l. e j (omega arith)), e n (omega arith))

pub unless_when : (k : ℕ) (a b : Answer) → (k ≡ 0 → a ≡ b) → unless k a ≡ unless k b
unfolding unless
unless_when zero a b h = h refl
unless_when (suc k) a b h = refl

-- a call that is refused leaves the trimmed graph of what it leaves
pub guarded_when : (k : ℕ) (g : Graph) (o p : Outcome) → (k ≡ 0 → p ≡ trimmed_outcome o) → guarded k (trimmed g) p ≡ trimmed_outcome (guarded k g o)
unfolding guarded
guarded_when zero g o p h = h refl
guarded_when (suc k) g o p h = refl

pub cond_outcome : (b : Bool) (x y p q : Outcome) → (b ≡ true → p ≡ trimmed_outcome x) → q ≡ trimmed_outcome y → cond b p q ≡ trimmed_outcome (cond b x y)
cond_outcome true x y p q h k = h refl
cond_outcome false x y p q h k = k
