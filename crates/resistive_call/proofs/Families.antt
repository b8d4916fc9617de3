-- What the functions on a node's numbers work out, step by step. From the definitions.
use mathlib.Core.Path.{◌≡◌, refl, sym, ap, ◌∙◌}
use mathlib.Core.Bool.{Bool, true, false}
use mathlib.Core.List.{List}
use mathlib.Core.Logic.{◌⊎◌, inl, inr, ⊎_elim, ◌≢◌}
use Prim.Native.Nat.{ℕ, zero, suc, ◌+◌, ◌-◌, ◌*◌, ◌/◌, ◌%◌, ◌≤◌, ◌<◌, min}
use native.Mathlib.Omega.{arith}
use lib.Dec.{eqb}
use lib.ListN.{get_or}
use Rattle.graph.specs.Finite.{if_equal, if_less}
use Rattle.graph.proofs.Cases.{cond_le, eq_or_ne}
use Rattle.graph.proofs.Tests.{less, no_less, equal, unequal}
use Rattle.moves.specs.Rows.{rows, first_row, arity, flag}
use Rattle.resistive.specs.Family.{weight, last_by, middle_by, family_by, packed}
use Rattle.resistive.specs.Resistive.{still_moves}
use Rattle.moves.specs.Decide.{MovesOf}
use Rattle.resistive_call.specs.Keys.{third_by, second_by, chain_by, Weighed, score_by, turn_by, key_by}
use Rattle.choice.specs.Inner.{FirstBelow}

module _ (n : ℕ) where
  weight_true : n ≡ weight true true n
  unfolding weight
  weight_true = omega arith

  pub weight_xor : (x : Bool) → x ≡ true → n ≡ weight true x n
  weight_xor x e = rw e weight_true

  weight_false_one : n ≡ 1 → ◌≡◌ {A = ℕ} 1 (weight true false n)
  unfolding weight
  weight_false_one e = let q : ◌≡◌ {A = ℕ} (if_equal n 1 0 304097) 0 = sym (equal n 1 0 304097 e refl) in omega (arith, q)

  pub weight_one : (x : Bool) → x ≡ false → n ≡ 1 → ◌≡◌ {A = ℕ} 1 (weight true x n)
  weight_one x e q = rw e (weight_false_one q)

  weight_false_more : n ≢ 1 → n + 304097 ≡ weight true false n
  unfolding weight
  weight_false_more e = let q : ◌≡◌ {A = ℕ} (if_equal n 1 0 304097) 304097 = sym (unequal n 1 0 304097 e refl) in omega (arith, q)

  pub weight_more : (x : Bool) → x ≡ false → n ≢ 1 → n + 304097 ≡ weight true x n
  weight_more x e q = rw e (weight_false_more q)

pub third_is : (x : Bool) (e f n a b r : ℕ) → a ≡ weight true x n → b ≡ weight true x (n + 1) → r ≡ min (e + a) (f + b) → r ≡ third_by x e f n
unfolding third_by
third_is x e f n a b r ea eb er = rw (← ea, ← eb) er

pub chain_is : (x : Bool) (a b c d e f l m n p q r : ℕ) → l ≡ third_by x e f 0 → m ≡ third_by x e f 1 → n ≡ third_by x e f 2 → p ≡ min (c + l) (d + m) → q ≡ min (c + m) (d + n)
    → r ≡ min (a + p) (b + q) → r ≡ chain_by x a b c d e f
unfolding chain_by second_by
chain_is x a b c d e f l m n p q r el em en ep eq er = rw (← el, ← em, ← en, ← ep, ← eq) er

module _ (x : Bool) (z : List ℕ) (k : ℕ) where
  chain_family : chain_by x (get_or z (flag x k 0) 0) (get_or z (1 - flag x k 0) 0) (get_or z (2 + flag x k 1) 0) (get_or z (3 - flag x k 1) 0) (get_or z (4 + flag x k 2) 0) (get_or z (5 - flag x k 2) 0) ≡ family_by x z k
  unfolding chain_by second_by third_by family_by middle_by last_by
  chain_family = refl

  pub family_by_lem : (f g h r : ℕ) → f ≡ flag x k 0 → g ≡ flag x k 1 → h ≡ flag x k 2
      → r ≡ chain_by x (get_or z f 0) (get_or z (1 - f) 0) (get_or z (2 + g) 0) (get_or z (3 - g) 0) (get_or z (4 + h) 0) (get_or z (5 - h) 0) → r ≡ family_by x z k
  family_by_lem f g h r ef eg eh er = rw (← chain_family, ← ef, ← eg, ← eh) er

  pub score_is : (s t f a b : ℕ) → f ≡ flag x k 3 → a ≡ if_equal f 0 s t → b ≡ family_by x z k → b + a ≡ score_by x z s t k
  unfolding score_by
  score_is s t f a b ef ea eb = rw (← ef, ← ea, ← eb)

-- of two numbers, by a flag
pub by_turn : (f : ℕ) (R : ℕ → ℕ) → f ≤ 1 → if_equal f 0 (R 0) (R 1) ≡ R f
by_turn f R l =
    ⊎_elim
    (λ (e : f ≡ 0). sym (equal f 0 (R 0) (R 1) e (ap R e)))
    (λ (e : f ≢ 0). let e₁ : f ≡ 1 = omega arith in sym (unequal f 0 (R 0) (R 1) e (ap R e₁)))
    (eq_or_ne f 0)

-- what a move turns, worked out
pub first_flag : (x : Bool) (k : ℕ) → k < arity x → (k + k / 2) % 2 ≡ flag x k 0
unfolding flag rows first_row arity if_less
first_flag true zero h = refl
first_flag true (suc zero) h = refl
first_flag true (suc (suc zero)) h = refl
first_flag true (suc (suc (suc zero))) h = refl
first_flag true (suc (suc (suc (suc k)))) h = absurd (omega arith)
first_flag false zero h = refl
first_flag false (suc zero) h = refl
first_flag false (suc (suc k)) h = absurd (omega arith)

pub second_flag : (x : Bool) (k : ℕ) → k < arity x → k % 2 ≡ flag x k 1
unfolding flag rows first_row arity if_less
second_flag true zero h = refl
second_flag true (suc zero) h = refl
second_flag true (suc (suc zero)) h = refl
second_flag true (suc (suc (suc zero))) h = refl
second_flag true (suc (suc (suc (suc k)))) h = absurd (omega arith)
second_flag false zero h = refl
second_flag false (suc zero) h = refl
second_flag false (suc (suc k)) h = absurd (omega arith)

third_flag_xor : (k : ℕ) → k < arity true → 0 ≡ flag true k 2
unfolding flag rows first_row arity if_less
third_flag_xor zero h = refl
third_flag_xor (suc zero) h = refl
third_flag_xor (suc (suc zero)) h = refl
third_flag_xor (suc (suc (suc zero))) h = refl
third_flag_xor (suc (suc (suc (suc k)))) h = absurd (omega arith)

third_flag_majority : (k : ℕ) → k < arity false → (k ≡ flag false k 2) × (k ≤ 1)
unfolding flag rows first_row arity if_less
third_flag_majority zero h = (refl, omega arith)
third_flag_majority (suc zero) h = (refl, omega arith)
third_flag_majority (suc (suc k)) h = absurd (omega arith)

pub third_of_xor : (x : Bool) (k : ℕ) → k < arity x → x ≡ true → 0 ≡ flag x k 2
third_of_xor x k h e = rw e (third_flag_xor k (rw e at h))

pub third_of_majority : (x : Bool) (k : ℕ) → k < arity x → x ≡ false → (k ≡ flag x k 2) × (k ≤ 1)
third_of_majority x k h e = rw e (third_flag_majority k (rw e at h))

-- the family under a move that is known only now: each word's two numbers as the move turns it
module _ (x : Bool) (z : List ℕ) (k f g h : ℕ) (kx : k < arity x) (ef : f ≡ flag x k 0) (eg : g ≡ flag x k 1) (eh : h ≡ flag x k 2) (fl : f ≤ 1) (gl : g ≤ 1) (hl : h ≤ 1) where
  pub family_under : (a b c d e i r : ℕ) → a ≡ if_equal f 0 (get_or z 0 0) (get_or z 1 0) → b ≡ if_equal f 0 (get_or z 1 0) (get_or z 0 0) → c ≡ if_equal g 0 (get_or z 2 0) (get_or z 3 0)
      → d ≡ if_equal g 0 (get_or z 3 0) (get_or z 2 0) → e ≡ if_equal h 0 (get_or z 4 0) (get_or z 5 0) → i ≡ if_equal h 0 (get_or z 5 0) (get_or z 4 0) → r ≡ chain_by x a b c d e i → r ≡ family_by x z k
  family_under a b c d e i r ea eb ec ed ee ei er =
      family_by_lem x z k f g h r ef eg eh
      (rw (
        ← ea ∙ by_turn f (λ y. get_or z y 0) fl,
        ← eb ∙ by_turn f (λ y. get_or z (1 - y) 0) fl,
        ← ec ∙ by_turn g (λ y. get_or z (2 + y) 0) gl,
        ← ed ∙ by_turn g (λ y. get_or z (3 - y) 0) gl,
        ← ee ∙ by_turn h (λ y. get_or z (4 + y) 0) hl,
        ← ei ∙ by_turn h (λ y. get_or z (5 - y) 0) hl,
      ) er)

pub either_le : (f s t m : ℕ) → s ≤ m → t ≤ m → if_equal f 0 s t ≤ m
unfolding if_equal
either_le f s t m a b = cond_le (eqb f 0) s t m a b

pub either_low : (r f s t m : ℕ) → r ≡ if_equal f 0 s t → s ≤ m → t ≤ m → r ≤ m
either_low r f s t m e a b = rw e (either_le f s t m a b)

pub arity_true : (k : ℕ) → k < 4 → k < arity true
unfolding arity
arity_true k h = h

pub arity_false : (k : ℕ) → k < 2 → k < arity false
unfolding arity
arity_false k h = h

pub arity_few : (x : Bool) → arity x ≤ 4
unfolding arity
arity_few true = omega arith
arity_few false = omega arith

module _ (z : List ℕ) (t : ℕ) where
  turn_true : min (family_by true z (2 * t)) (family_by true z (2 * t + 1)) ≡ turn_by true z t
  unfolding turn_by
  turn_true = refl

  pub turn_xor : (x : Bool) (a b r : ℕ) → x ≡ true → a ≡ family_by true z (2 * t) → b ≡ family_by true z (2 * t + 1) → r ≡ min a b → r ≡ turn_by x z t
  turn_xor x a b r e ea eb er = rw (e, ← turn_true, ← ea, ← eb) er

  turn_false : family_by false z t ≡ turn_by false z t
  unfolding turn_by
  turn_false = refl

  pub turn_majority : (x : Bool) (r : ℕ) → x ≡ false → r ≡ family_by false z t → r ≡ turn_by x z t
  turn_majority x r e er = rw (e, ← turn_false) er

pub pack_more : (a b : ℕ) → b < a → 2 * (a - b) + 1 ≡ packed a b
unfolding packed
pack_more a b l = less b a (2 * (a - b) + 1) (2 * (b - a)) l refl

pub pack_less : (a b : ℕ) → a ≤ b → 2 * (b - a) ≡ packed a b
unfolding packed
pack_less a b l = no_less b a (2 * (a - b) + 1) (2 * (b - a)) l refl

module _ (x : Bool) (n : ℕ) (z : List ℕ) where
  pub key_locked : n ≡ 1 → 608200 ≡ key_by x n z
  unfolding key_by
  key_locked e = equal n 1 608200 (packed (turn_by x z 0) (turn_by x z 1)) e refl

  pub key_free : (a b r : ℕ) → n ≢ 1 → a ≡ turn_by x z 0 → b ≡ turn_by x z 1 → r ≡ packed a b → r ≡ key_by x n z
  unfolding key_by
  key_free a b r d ea eb er = unequal n 1 608200 (packed (turn_by x z 0) (turn_by x z 1)) d (rw (← ea, ← eb) er)

still_true : 2 ≡ still_moves true
unfolding still_moves
still_true = refl

still_false : 1 ≡ still_moves false
unfolding still_moves
still_false = refl

pub still_xor : (x : Bool) (m r : ℕ) → x ≡ true → r ≡ min m 2 → r ≡ min m (still_moves x)
still_xor x m r e q = rw (e, ← still_true) q

pub still_majority : (x : Bool) (m r : ℕ) → x ≡ false → r ≡ min m 1 → r ≡ min m (still_moves x)
still_majority x m r e q = rw (e, ← still_false) q

pub arity_xor : arity true ≡ 4
unfolding arity
arity_xor = refl

pub arity_majority : arity false ≡ 2
unfolding arity
arity_majority = refl

-- the moves that are weighed of a node: all that it has, or at a root those that leave its readers
pub weighed_all : (x : Bool) (n : ℕ) → MovesOf x n → Weighed x n
weighed_all x n h = ⊎_elim (λ (e : n ≡ 1). inl e) (λ (e : n ≡ arity x). inr (inr e)) h

pub weighed_still : (x : Bool) (n c : ℕ) → MovesOf x n → c ≡ min n (still_moves x) → Weighed x c
weighed_still true n c h e = let s = still_true in ⊎_elim (λ (q : n ≡ 1). inl (omega arith)) (λ (q : n ≡ arity true). let a = arity_xor in inr (inl (omega arith))) h
weighed_still false n c h e = let s = still_false in ⊎_elim (λ (q : n ≡ 1). inl (omega arith)) (λ (q : n ≡ arity false). let a = arity_majority in inl (omega arith)) h

pub weighed_xor : (x : Bool) (n : ℕ) → x ≡ true → n ≢ 1 → Weighed x n → (n ≡ 2) ⊎ (n ≡ 4)
weighed_xor x n e d h =
    ⊎_elim (λ (q : n ≡ 1). absurd (d q)) (λ (w : (n ≡ 2) ⊎ (n ≡ arity x)). ⊎_elim (λ (q : n ≡ 2). inl q) (λ (q : n ≡ arity x). inr (q ∙ ap arity e ∙ arity_xor)) w) h

weighed_majority : (x : Bool) (n : ℕ) → x ≡ false → n ≢ 1 → Weighed x n → n ≡ 2
weighed_majority x n e d h =
    ⊎_elim (λ (q : n ≡ 1). absurd (d q)) (λ (w : (n ≡ 2) ⊎ (n ≡ arity x)). ⊎_elim (λ (q : n ≡ 2). q) (λ (q : n ≡ arity x). q ∙ ap arity e ∙ arity_majority) w) h

pub as_xor : (x : Bool) (z : List ℕ) (s t n k : ℕ) → x ≡ true → FirstBelow (score_by true z s t) n k → FirstBelow (score_by x z s t) n k
as_xor x z s t n k e f = rw e f

pub as_majority : (x : Bool) (z : List ℕ) (s t n k : ℕ) → x ≡ false → n ≢ 1 → Weighed x n → FirstBelow (score_by false z s t) 2 k → FirstBelow (score_by x z s t) n k
as_majority x z s t n k e d h f = rw (weighed_majority x n e d h, e) f

pub first_ends : {f : ℕ → ℕ} {a b k : ℕ} → FirstBelow f a k → a ≡ b → FirstBelow f b k
first_ends t e = rw (← e) t
