-- A line tested by its numbers, and lines tested one after the other. From the laws on tests.
use Prim.Native.Nat.{ℕ, zero, suc, ◌+◌, ◌<◌}
use mathlib.Core.Path.{◌≡◌, refl, sym, ap, ◌∙◌}
use mathlib.Core.List.{List}
use native.Mathlib.Numerals.{add-one}
use lib.ListN.{drop}
use Rattle.std.proofs.Common.{Result, Ok, Err}
use Rattle.std.specs.Result.{IsErrAnd}
use Rattle.std.proofs.lemmas.Result.{err_from_is_err_and}
use Rattle.graph.specs.Answer.{number_of, refusal_number}
use Rattle.graph.specs.declared.Refusal.{Refusal}
use Rattle.graph.specs.Finite.{first, first_of}
use Rattle.graph.proofs.Answers.{number_some}
use Rattle.graph.proofs.Tests.{fault, none, first_at}
use Rattle.aiger.specs.Lines.{skip, line_number}
use Rattle.aiger.proofs.Imported.{skip_add}
use Rattle.aiger_import.specs.Reading.{Passed, LineRead}

-- the number of a call that is refused as another one is
pub err_number : {T : Type 0} (r : Result T Refusal) (x : Refusal) (m : ℕ) → IsErrAnd r (λ y. y ≡ x) → number_of x ≡ m → refusal_number r ≡ m
err_number r x m e n = let p = err_from_is_err_and r e in rw (p.1, p.2) n

-- a refusal takes no bytes
pub err_passed : (f n : ℕ) (s : List ℕ) (x : Refusal) → number_of x ≡ f → Passed f n s (Err x)
err_passed f n s x e = record { fault_is = e; taken = λ size h. absurd (cc) }

pub err_passes : (f n : ℕ) (s : List ℕ) (r : Result ℕ Refusal) (x : Refusal) → IsErrAnd r (λ y. y ≡ x) → number_of x ≡ f → Passed f n s r
err_passes f n s r x e q = let p = err_from_is_err_and r e in rw (p.1, p.2) (err_passed f n s x q)

-- a line with k spaces that was read: the fault of the line itself, one of its numbers, or none
module _ (k : ℕ) (s ns : List ℕ) (x : ℕ) where
  pub line_fault : (r : Result ℕ Refusal) (y : Refusal) → IsErrAnd r (λ z. z ≡ y) → LineRead k s ns (Err y) → Passed (first (line_number k s) x) (suc k) s r
  line_fault r y e l = let q = l.passed.fault_is in err_passes _ _ s r y e (fault _ x q (λ z. number_some y (q ∙ z)))

  module _ (size : ℕ) (l : LineRead k s ns (Ok size)) where
    pub number_fault : (y : Refusal) → number_of y ≡ x → Passed (first (line_number k s) x) (suc k) s (Err y)
    number_fault y e = err_passed _ _ s y (none _ x (sym l.passed.fault_is) e)

    pub number_none : 0 ≡ x → Passed (first (line_number k s) x) (suc k) s (Ok size)
    number_none e = record { fault_is = none _ x (sym l.passed.fault_is) e; taken = l.passed.taken }

-- k lines, m numbers, have no fault, and the bytes s are left; line j has the fault f j
pub record Checking (f : ℕ → ℕ) (s₀ s : List ℕ) (k m : ℕ) : Type 0 where
  pub place : s ≡ skip m s₀
  pub fine : first_of k f ≡ 0

pub check_start : (f : ℕ → ℕ) (s : List ℕ) → Checking f s s 0 0
unfolding first_of
check_start f s = record { place = refl; fine = refl }

first_met : (n : ℕ) (f : ℕ → ℕ) (i x : ℕ) → i < n → first_of i f ≡ 0 → x ≡ f i → (x ≡ 0 → ⊥) → x ≡ first_of n f
first_met n f i zero h z e d = absurd (d refl)
first_met n f i (suc x) h z e d = sym (first_at n f i x h z (sym e))

module _ (f : ℕ → ℕ) (s₀ s : List ℕ) (k m : ℕ) (c : Checking f s₀ s k m) (F n : ℕ) (e : F ≡ f k) where
  pub check_fault : (x : Refusal) (lines : ℕ) → Passed F n s (Err x) → k < lines → number_of x ≡ first_of lines f
  check_fault x lines p h = first_met lines f k (number_of x) h c.fine (p.fault_is ∙ e) (number_some x)

  pub check_more : (size : ℕ) (t : List ℕ) (m' : ℕ) → Passed F n s (Ok size) → t ≡ drop size s → m + n ≡ m' → Checking f s₀ t (k + 1) m'
  unfolding first_of
  check_more size t m' p q w =
      record {
        place = q ∙ (p.taken size refl).after ∙ ap (skip n) c.place ∙ skip_add m n s₀ ∙ ap (λ (i : ℕ). skip i s₀) w;
        fine = rw (add-one k) (sym (none (first_of k f) (f k) c.fine (p.fault_is ∙ e)));
      }
