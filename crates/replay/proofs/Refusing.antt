-- What refuses one call of a list, the walk over all of them, and what refuses the list at each test. From the laws on tests.
use Rattle.std.proofs.Common.{Result}
use Rattle.std.specs.Result.{IsErrAnd}
use Rattle.std.proofs.lemmas.Result.{err_from_is_err_and}
use mathlib.Core.Path.{◌≡◌, refl, sym, ap, ◌∙◌}
use mathlib.Core.List.{List, [], ◌∷◌}
use mathlib.Core.Logic.{⊎_elim, ◌≢◌}
use Prim.Native.Nat.{ℕ, ◌+◌, ◌*◌, ◌/◌, ◌%◌, ◌≤◌, ◌<◌, min}
use native.Mathlib.Omega.{arith}
use lib.ListN.{length, get_or, drop}
use Rattle.graph.specs.Finite.{if_less, if_equal, first}
use Rattle.graph.proofs.Cases.{lt_or_le}
use Rattle.graph.proofs.Tests.{equal, unequal, less, no_less, fault, none, stops}
use Rattle.replay.specs.Replay.{calls_number, part_number, call_number, words_number, code_number, lesser, usable}
use Rattle.replay.specs.Inner.{fault_number}
use Rattle.replay.specs.Kind.{word_of}
use Rattle.replay.specs.declared.kind.Kind.{Kind}
use Rattle.replay.specs.declared.kind.Kind.TheVariants.{Node, Pair, Tree, Settling, Many, Majority, Finder, Resistive}
use Rattle.replay.specs.declared.CallsFault.{CallsFault}
use Rattle.replay.specs.declared.CallsFault.TheVariants.{LeftOver, UnknownKind, PartOutside}

-- no fault has the number 0, and a row of checks that ends by one has its number
pub calls_some : (f : CallsFault) → calls_number f ≡ 0 → ⊥
calls_some LeftOver e = omega arith
calls_some UnknownKind e = omega arith
calls_some PartOutside e = omega arith

-- what the tests of one call come to
module _ (n k u w : ℕ) where
  pub kind_unknown : 7 < k → 102 ≡ call_number n k u w
  unfolding call_number
  kind_unknown h = let q : ◌≡◌ {A = ℕ} 102 (if_less 7 k 102 0) = less 7 k 102 0 h refl in fault _ _ q (λ z. omega (arith, q))

  module _ (h : k ≤ 7) where
    kind_known : ◌≡◌ {A = ℕ} (if_less 7 k 102 0) 0
    kind_known = sym (no_less 7 k 102 0 h refl)

    pub of_many : {x : ℕ} → k ≡ 4 → x ≡ part_number n (u + w) → x ≡ call_number n k u w
    unfolding call_number
    of_many e q = none _ _ kind_known (equal k 4 _ _ e q)

    pub of_three : {x : ℕ} → k ≢ 4 → k ≡ 5 → x ≡ part_number n (w + 3) → x ≡ call_number n k u w
    unfolding call_number
    of_three m e q = none _ _ kind_known (unequal k 4 _ _ m (equal k 5 _ _ e q))

    pub no_part : k ≢ 4 → k ≢ 5 → 0 ≡ call_number n k u w
    unfolding call_number
    no_part m l = none _ _ kind_known (unequal k 4 _ _ m (unequal k 5 _ _ l refl))

-- the same where the word is that of a known kind, or of none
pub unknown_call : {T : Type 0} (n k u w : ℕ) (r : Result T CallsFault) (f : CallsFault) → IsErrAnd r (λ y. y ≡ f) → f ≡ UnknownKind → 7 < k → fault_number r ≡ call_number n k u w
unknown_call n k u w r f e q l = let p = err_from_is_err_and r e in rw (p.1, p.2, q) (kind_unknown n k u w l)

module _ (n k u w : ℕ) (c : Kind) (q : word_of c ≡ k) where
  pub many_call_lem : {x : ℕ} → c ≡ Many → x ≡ part_number n (u + w) → x ≡ call_number n k u w
  many_call_lem e h = let d : k ≡ 4 = sym q ∙ ap word_of e in of_many n k u w (omega arith) d h

  pub three_call_lem : {x : ℕ} → c ≡ Majority → x ≡ part_number n (w + 3) → x ≡ call_number n k u w
  three_call_lem e h = let d : k ≡ 5 = sym q ∙ ap word_of e in of_three n k u w (omega arith) (λ z. omega arith) d h

-- and of any other kind
other_word : (c : Kind) → (c ≡ Many → ⊥) → (c ≡ Majority → ⊥) → (word_of c ≤ 7) × (word_of c ≢ 4) × (word_of c ≢ 5)
other_word Node m j = (omega arith, λ z. omega arith, λ z. omega arith)
other_word Pair m j = (omega arith, λ z. omega arith, λ z. omega arith)
other_word Tree m j = (omega arith, λ z. omega arith, λ z. omega arith)
other_word Settling m j = (omega arith, λ z. omega arith, λ z. omega arith)
other_word Many m j = absurd (m refl)
other_word Majority m j = absurd (j refl)
other_word Finder m j = (omega arith, λ z. omega arith, λ z. omega arith)
other_word Resistive m j = (omega arith, λ z. omega arith, λ z. omega arith)

pub other_call : (n k u w : ℕ) (c : Kind) → word_of c ≡ k → (c ≡ Many → ⊥) → (c ≡ Majority → ⊥) → 0 ≡ call_number n k u w
other_call n k u w c q m j =
    let o = other_word c m j in
    no_part n k u w (omega (arith, o.0, q)) (λ z. o.1 (q ∙ z)) (λ z. o.2 (q ∙ z))

-- a walk that stops at a fault
pub stops_at : {T : Type 0} (r : Result T CallsFault) (f : CallsFault) {W D : ℕ} (a R : ℕ) → IsErrAnd r (λ y. y ≡ f) → calls_number f ≡ a → W ≡ D → W ≡ first a R → fault_number r ≡ D
stops_at r f a R e n w s = let p = err_from_is_err_and r e in rw (p.1, p.2) (stops a R w s n (calls_some f))

module _ (n : ℕ) where
  pub words_step : (s : List ℕ) → 3 ≤ length s → words_number n s ≡ first (call_number n (get_or s 0 0) (get_or s 1 0) (get_or s 2 0)) (words_number n (drop 3 s))
  words_step [] h = absurd (omega arith)
  words_step (k ∷ []) h = absurd (omega arith)
  words_step (k ∷ u ∷ []) h = absurd (omega arith)
  words_step (k ∷ u ∷ w ∷ s) h = refl

  pub words_done : (s : List ℕ) → length s < 3 → 0 ≡ words_number n s
  words_done [] h = refl
  words_done (k ∷ []) h = refl
  words_done (k ∷ u ∷ []) h = refl
  words_done (k ∷ u ∷ w ∷ s) h = absurd (omega arith)

module _ (ws : List ℕ) (n room : ℕ) where
  -- the number after each test
  whole : length ws % 3 ≡ 0 → ◌≡◌ {A = ℕ} (if_equal (length ws % 3) 0 0 101) 0
  whole z = sym (equal (length ws % 3) 0 0 101 z refl)

  pub code_left : (length ws % 3 ≡ 0 → ⊥) → 101 ≡ code_number ws n room
  unfolding code_number
  code_left m = let q : ◌≡◌ {A = ℕ} 101 (if_equal (length ws % 3) 0 0 101) = unequal (length ws % 3) 0 0 101 m refl in fault (if_equal (length ws % 3) 0 0 101) _ q (λ z. omega (arith, q))

  pub code_words : (k : ℕ) → length ws % 3 ≡ 0 → k ≡ words_number n ws → k ≢ 0 → k ≡ code_number ws n room
  unfolding code_number
  code_words k z e m = none (if_equal (length ws % 3) 0 0 101) _ (whole z) (fault (words_number n ws) _ e (λ y. m (e ∙ y)))

  pub code_short : length ws % 3 ≡ 0 → words_number n ws ≡ 0 → usable room < 3 * (length ws / 3) → 4 ≡ code_number ws n room
  unfolding code_number
  code_short z k h = none (if_equal (length ws % 3) 0 0 101) _ (whole z) (none (words_number n ws) _ k (less (usable room) (3 * (length ws / 3)) 4 0 h refl))

  pub code_none : length ws % 3 ≡ 0 → words_number n ws ≡ 0 → 3 * (length ws / 3) ≤ usable room → code_number ws n room ≡ 0
  unfolding code_number
  code_none z k h = sym (none (if_equal (length ws % 3) 0 0 101) _ (whole z) (none (words_number n ws) _ k (no_less (usable room) (3 * (length ws / 3)) 4 0 h refl)))

-- the lesser of two numbers is their minimum
pub lesser_min : (a b : ℕ) → lesser a b ≡ min a b
unfolding lesser
lesser_min a b =
    ⊎_elim
    (λ (l : a < b). let e : lesser a b ≡ a = sym (less a b a b l refl) in omega (arith, e))
    (λ (l : b ≤ a). let e : lesser a b ≡ b = sym (no_less a b a b l refl) in omega (arith, e))
    (lt_or_le a b)
