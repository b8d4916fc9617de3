-- A line read number by number, and what then is known of it. From the laws on lines.
use Prim.Native.Nat.{ℕ, zero, suc, ◌+◌, ◌-◌, ◌<◌, ◌≤◌}
use mathlib.Core.Path.{◌≡◌, refl, sym, ap, ◌∙◌}
use mathlib.Core.Logic.{⊎_elim}
use mathlib.Core.List.{List}
use native.Mathlib.Omega.{arith}
use native.Mathlib.Nat.{eq-or-lt_of_le}
use native.Mathlib.Numerals.{add-one}
use lib.ListN.{length, get_or, drop, set, length-drop}
use lib.Seq.{drop-drop, get_or-set_same, get_or-set_other}
use Rattle.std.proofs.Common.{Result, Ok, Err}
use Rattle.std.specs.Result.{IsErrAnd}
use Rattle.std.proofs.lemmas.Result.{err_from_is_err_and}
use Rattle.graph.specs.Answer.{number_of}
use Rattle.graph.specs.declared.Refusal.{Refusal}
use Rattle.graph.specs.Finite.{first}
use Rattle.graph.proofs.Answers.{number_some}
use Rattle.graph.proofs.Tests.{fault, none}
use Rattle.aiger.specs.Lines.{number, ended_number, next, skip, number_at, line_number}
use Rattle.aiger.proofs.Walk.{skip_next}
use Rattle.aiger_import.specs.Reading.{NumberIs, NumberRead, Taken, LineRead}
use Rattle.aiger_import.specs.declared.lines.Number.{Number}
use Rattle.aiger_import.proofs.Tested.{err_passed}

-- j of a line's numbers are read, up to place `at`
pub record Walked (k : ℕ) (s ns : List ℕ) (at j : ℕ) : Type 0 where
  pub most : j ≤ k
  pub within : at ≤ length s
  pub place : drop at s ≡ skip j s
  pub rest : line_number (k - j) (skip j s) ≡ line_number k s
  pub numbers : (i : ℕ) → i < j → get_or ns i 0 ≡ number_at s i

pub walked_start : (k : ℕ) (s ns : List ℕ) → Walked k s ns 0 0
walked_start k s ns =
    let e : k - 0 ≡ k = omega arith in
    record { most = omega arith; within = omega arith; place = refl; rest = rw e; numbers = λ i h. absurd (omega arith) }

line_more : (k : ℕ) (s : List ℕ) → 0 < k → line_number k s ≡ first (ended_number 32 s) (line_number (k - 1) (next s))
unfolding line_number
line_more zero s h = absurd (omega arith)
line_more (suc k) s h = let e : suc k - 1 ≡ k = omega arith in rw e

line_last : (k : ℕ) (s : List ℕ) → k ≡ 0 → line_number k s ≡ ended_number 10 s
unfolding line_number
line_last zero s h = refl
line_last (suc k) s h = absurd (omega arith)

-- a line that is refused
line_refused : {k : ℕ} {s ns : List ℕ} (r : Result ℕ Refusal) (x : Refusal) → IsErrAnd r (λ y. y ≡ x) → number_of x ≡ line_number k s → LineRead k s ns r
line_refused {k} {s} r x q m =
    let p = err_from_is_err_and r q in
    rw (p.1, p.2) (record { passed = err_passed (line_number k s) (suc k) s x m; numbers = λ size h. absurd (cc) })

-- a fact on what was returned
taken_is : {n m : ℕ} {s : List ℕ} (size : ℕ) → ◌≡◌ {A = Result ℕ Refusal} (Ok m) (Ok size) → Taken n s m → Taken n s size
taken_is {n} {m} {s} size e t = let q : m ≡ size = cc in rw (← q) t

-- one more number, at the front of what is left
module _ (k : ℕ) (s ns : List ℕ) (at j : ℕ) (w : Walked k s ns at j) (end : ℕ) (t : List ℕ) (e : t ≡ drop at s) where
  left_is : t ≡ skip j s
  left_is = e ∙ w.place

  ended_at : ended_number end t ≡ ended_number end (skip j s)
  ended_at = ap (ended_number end) left_is

  -- with a space after it, and with a newline
  step : j < k → end ≡ 32 → line_number k s ≡ first (ended_number end t) (line_number (k - (j + 1)) (skip (suc j) s))
  step h f =
      let q : k - j - 1 ≡ k - (j + 1) = omega arith in
      let p : ended_number 32 (skip j s) ≡ ended_number end t = ap (λ (m : ℕ). ended_number m (skip j s)) (sym f) ∙ sym ended_at in
      sym w.rest ∙ line_more (k - j) (skip j s) (omega arith) ∙ rw (p, q, skip_next j s) refl

  last_step : k ≤ j → end ≡ 10 → line_number k s ≡ ended_number end t
  last_step h f =
      let d : k - j ≡ 0 = omega arith in
      sym w.rest ∙ line_last (k - j) (skip j s) d ∙ ap (λ (m : ℕ). ended_number m (skip j s)) (sym f) ∙ sym ended_at

  pub space_fault : j < k → end ≡ 32 → (r : Result ℕ Refusal) (x : Refusal) → IsErrAnd r (λ y. y ≡ x) → NumberRead end t (Err x) → LineRead k s ns r
  space_fault h f r x q n = line_refused r x q (fault _ _ n.fault_is (λ z. number_some x (n.fault_is ∙ z)) ∙ sym (step h f))

  pub newline_fault : k ≤ j → end ≡ 10 → (r : Result ℕ Refusal) (x : Refusal) → IsErrAnd r (λ y. y ≡ x) → NumberRead end t (Err x) → LineRead k s ns r
  newline_fault h f r x q n = line_refused r x q (n.fault_is ∙ sym (last_step h f))

  module _ (n : Number) (r : NumberRead end t (Ok n)) where
    abbrev number_is : NumberIs t n
    number_is = r.is n refl

    pub ends : at + n.size ≤ length s
    ends = let f = ap length e in omega (arith, length-drop at s, number_is.within, w.within)

    after : drop (at + n.size) s ≡ skip (suc j) s
    unfolding next
    after =
        sym (drop-drop n.size at s) ∙ ap (λ (l : List ℕ). drop n.size l) (sym e) ∙ ap (λ (m : ℕ). drop m t) number_is.size_is ∙ ap next left_is ∙ sym (skip_next j s)

    known : j < length ns → (i : ℕ) → i < suc j → get_or (set ns j n.value) i 0 ≡ number_at s i
    known l i h =
        ⊎_elim
        (λ (q : i ≡ j). rw q (get_or-set_same ns j n.value 0 l ∙ number_is.value_is ∙ ap number left_is))
        (λ (q : i < j). get_or-set_other ns j i n.value 0 (omega arith) ∙ w.numbers i q)
        (eq-or-lt_of_le (omega arith))

    pub walked_more : j < k → end ≡ 32 → j < length ns → Walked k s (set ns j n.value) (at + n.size) (j + 1)
    walked_more h f l =
        record {
          most = omega arith;
          within = ends;
          place = rw (add-one j) after;
          rest = rw (add-one j) (rw (add-one j) at (none _ _ (sym r.fault_is) refl ∙ sym (step h f)));
          numbers = rw (add-one j) (known l);
        }

    pub walked_last : k ≤ j → end ≡ 10 → k < length ns → LineRead k s (set ns k n.value) (Ok (at + n.size))
    walked_last h f l =
        let q : j ≡ k = omega (arith, w.most) in
        record {
          passed = record { fault_is = r.fault_is ∙ sym (last_step h f); taken = λ size z. taken_is size z (record { within = ends; after = rw q at after }) };
          numbers = λ size z i m. rw q at (known (omega arith)) i (omega arith);
        }
