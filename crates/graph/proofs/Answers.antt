-- Answers that go by a number: what they come to at a fault and without one, and that the numbers of an admission are at most 13.
-- Assumes nothing.
use Rattle.std.proofs.Common.{◌≡◌, ℕ, zero, suc, ◌≤◌, ltb, ◌≢◌, List, refl, ap, sym, ◌∙◌, ⊎_elim, arith, Result, Ok, Err}
use Rattle.std.specs.Result.{IsErrAnd, result_and}
use Rattle.std.proofs.lemmas.Result.{err_from_is_err_and}
use Rattle.graph.specs.Finite.{if_less, if_equal, first, first_of}
use Rattle.graph.specs.Graph.{Graph, is_edge}
use Rattle.graph.specs.Admission.{room_number, tables_number, word_number, output_number, stray_number, strays_number, literal_number, lock_number, locks_number, content_number, admission_number}
use Rattle.graph.proofs.Cases.{cond_le, eq_or_ne}
use Rattle.graph.proofs.Tests.{equal, unequal, fault, none}
use Rattle.graph.specs.Answer.{Answer, Outcome, LockedOutcome, number_of, refusal_number, answer_by, refused, outcome, locked_outcome, unless, guarded, guarded_locks}
use Rattle.graph.specs.Inner.{IsRefusal}
use Rattle.graph.specs.declared.Refusal.{Refusal}
use Rattle.graph.specs.declared.Refusal.TheVariants.{MissingBytes, WrongField, OverLimit, ShortSlice, BadLiteral, ExtraBytes, NoSuchNode, ShortScratch, ShortBuffer, BadText, HasLatches, WrongNumbering, BadLock, NotRising, NoSuchMove, LockedNode, ManyInputs, BadWanted, StagesDiffer}

-- the number of each refusal, and that it is not 0
pub number_in : (r : Refusal) → IsRefusal (number_of r)
number_in MissingBytes = (omega arith, omega arith)
number_in WrongField = (omega arith, omega arith)
number_in OverLimit = (omega arith, omega arith)
number_in ShortSlice = (omega arith, omega arith)
number_in BadLiteral = (omega arith, omega arith)
number_in ExtraBytes = (omega arith, omega arith)
number_in NoSuchNode = (omega arith, omega arith)
number_in ShortScratch = (omega arith, omega arith)
number_in ShortBuffer = (omega arith, omega arith)
number_in BadText = (omega arith, omega arith)
number_in HasLatches = (omega arith, omega arith)
number_in WrongNumbering = (omega arith, omega arith)
number_in BadLock = (omega arith, omega arith)
number_in NotRising = (omega arith, omega arith)
number_in NoSuchMove = (omega arith, omega arith)
number_in LockedNode = (omega arith, omega arith)
number_in ManyInputs = (omega arith, omega arith)
number_in BadWanted = (omega arith, omega arith)
number_in StagesDiffer = (omega arith, omega arith)

pub number_some : (r : Refusal) → number_of r ≡ 0 → ⊥
number_some r e = omega (arith, (number_in r).0, e)

-- a call that is refused by k, and one that is not
pub refused_is : (k m : ℕ) (a : Answer) → k ≡ m → (m ≡ 0 → ⊥) → refused k ≡ unless m a
unfolding unless
refused_is k zero a e n = absurd (n refl)
refused_is k (suc m) a e n = ap refused e

pub accepted_is : (m : ℕ) (a : Answer) → m ≡ 0 → a ≡ unless m a
unfolding unless
accepted_is zero a e = refl
accepted_is (suc m) a e = absurd (omega arith)

-- a check by whose refusal a row of checks ends, or a call: the row is refused by the first fault, and the call by its number
pub ends_row : {T : Type 0} (r : Result T Refusal) (x : Refusal) (a b : ℕ) → IsErrAnd r (λ y. y ≡ x) → number_of x ≡ a → refusal_number r ≡ first a b
ends_row r x a b e n =
    let p = err_from_is_err_and r e in
    rw (p.1, p.2) (fault a b n (λ z. number_some x (n ∙ z)))

-- two checks of which both are made before either is told
pub both_row : {T U : Type 0} (r : Result T Refusal) (s q : Result U Refusal) → q ≡ result_and r s → refusal_number q ≡ first (refusal_number r) (refusal_number s)
both_row (Ok x) s q e = none 0 (refusal_number s) refl (ap refusal_number e)
both_row (Err x) s q e = fault (number_of x) (refusal_number s) (ap refusal_number e) (number_some x)

pub ends_call : {T : Type 0} (f : T → Answer) (r : Result T Refusal) (x : Refusal) (m : ℕ) (a : Answer) → IsErrAnd r (λ y. y ≡ x) → number_of x ≡ m → answer_by f r ≡ unless m a
ends_call f r x m a e n =
    let p = err_from_is_err_and r e in
    rw (p.1, p.2) (refused_is (number_of x) m a n (λ z. number_some x (n ∙ z)))

-- a check whose answer is the call's
pub answered : {T : Type 0} (f : T → Answer) (r : Result T Refusal) (m : ℕ) (a : Answer) → refusal_number r ≡ m → ((x : T) → r ≡ Ok x → f x ≡ a) → answer_by f r ≡ unless m a
answered f (Ok x) m a e h = h x refl ∙ accepted_is m a (sym e)
answered f (Err x) m a e h = refused_is (number_of x) m a e (λ z. number_some x (e ∙ z))

-- the same with the graph afterwards
pub refused_outcome : (k m : ℕ) (g : Graph) (o : Outcome) → k ≡ m → (m ≡ 0 → ⊥) → outcome (refused k) g ≡ guarded m g o
unfolding guarded
refused_outcome k zero g o e n = absurd (n refl)
refused_outcome k (suc m) g o e n = ap (λ (i : ℕ). outcome (refused i) g) e

pub accepted_outcome : (m : ℕ) (g : Graph) (o : Outcome) → m ≡ 0 → o ≡ guarded m g o
unfolding guarded
accepted_outcome zero g o e = refl
accepted_outcome (suc m) g o e = absurd (omega arith)

-- and with the locks
pub refused_locked : (k m : ℕ) (g : Graph) (ls : List ℕ) (o : LockedOutcome) → k ≡ m → (m ≡ 0 → ⊥) → locked_outcome (refused k) g ls ≡ guarded_locks m g ls o
unfolding guarded_locks
refused_locked k zero g ls o e n = absurd (n refl)
refused_locked k (suc m) g ls o e n = ap (λ (i : ℕ). locked_outcome (refused i) g ls) e

pub accepted_locked : (m : ℕ) (g : Graph) (ls : List ℕ) (o : LockedOutcome) → m ≡ 0 → o ≡ guarded_locks m g ls o
unfolding guarded_locks
accepted_locked zero g ls o e = refl
accepted_locked (suc m) g ls o e = absurd (omega arith)

-- bounds of numbers
pub if_less_le : (a b x y n : ℕ) → x ≤ n → y ≤ n → if_less a b x y ≤ n
unfolding if_less
if_less_le a b x y n h k = cond_le (ltb a b) x y n h k

pub if_equal_le : (a b x y n : ℕ) → x ≤ n → y ≤ n → if_equal a b x y ≤ n
if_equal_le a b x y n h k =
    ⊎_elim (λ (e : a ≡ b). rw (← equal a b x y e refl) h) (λ (d : a ≢ b). rw (← unequal a b x y d refl) k) (eq_or_ne a b)

pub first_le : (a b n : ℕ) → a ≤ n → b ≤ n → first a b ≤ n
unfolding first
first_le zero b n h k = k
first_le (suc a) b n h k = h

pub first_of_le : (m : ℕ) (f : ℕ → ℕ) (n : ℕ) → ((j : ℕ) → f j ≤ n) → first_of m f ≤ n
unfolding first_of
first_of_le zero f n h = omega arith
first_of_le (suc m) f n h = first_le (first_of m f) (f m) n (first_of_le m f n h) (h m)

pub room_le : (i n o a b l : ℕ) → room_number i n o a b l ≤ 5
unfolding room_number
room_le i n o a b l =
    if_less_le _ _ _ _ _ (omega arith)
    (if_less_le _ _ _ _ _ (omega arith)
    (if_less_le _ _ _ _ _ (omega arith)
    (if_less_le _ _ _ _ _ (omega arith)
    (if_less_le _ _ _ _ _ (omega arith)
    (if_less_le _ _ _ _ _ (omega arith) (omega arith))))))

module _ (g : Graph) where
  word_le : (j : ℕ) → word_number g j ≤ 5
  unfolding word_number
  word_le j = cond_le (is_edge g j) _ _ _ (if_less_le _ _ _ _ _ (omega arith) (omega arith)) (omega arith)

  out_le : (j : ℕ) → output_number g j ≤ 5
  unfolding output_number
  out_le j = if_less_le _ _ _ _ _ (omega arith) (omega arith)

  literal_le : literal_number g ≤ 5
  unfolding literal_number strays_number stray_number
  literal_le =
      first_le _ _ _
      (first_le _ _ _ (if_less_le _ _ _ _ _ (omega arith) (omega arith)) (if_less_le _ _ _ _ _ (omega arith) (omega arith)))
      (first_le _ _ _ (first_of_le _ _ _ word_le) (first_of_le _ _ _ out_le))

  module _ (ls : List ℕ) where
    pub tables_le : tables_number g ls ≤ 5
    unfolding tables_number
    tables_le = room_le _ _ _ _ _ _

    locks_le : (n : ℕ) → locks_number n ls ≤ 13
    unfolding locks_number lock_number
    locks_le n = first_of_le _ _ _ (λ v. if_less_le _ _ _ _ _ (omega arith) (omega arith))

    pub content_le : content_number g ls ≤ 13
    unfolding content_number
    content_le = first_le _ _ _ (omega (arith, literal_le)) (locks_le g.N)

    pub admission_le : admission_number g ls ≤ 13
    unfolding admission_number
    admission_le = first_le _ _ _ (omega (arith, tables_le)) content_le
