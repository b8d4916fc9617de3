-- The nodes that locks name: whether an index is among them, and the bytes of free nodes with the locks set one by one. From the laws
-- on tests and on tables filled from the front.
use Prim.Native.Nat.{ℕ, zero, suc, ◌+◌, ◌-◌, ◌<◌, ◌≤◌}
use mathlib.Core.Path.{◌≡◌, refl, sym, ◌∙◌}
use mathlib.Core.List.{List, [], ◌∷◌, ◌++◌}
use mathlib.Core.Logic.{⊎_elim, ◌≢◌}
use native.Mathlib.Omega.{arith}
use lib.ListN.{length, get_or, drop, set, length-set, length-append, get_or-append}
use lib.Seq.{ext_get_or, get_or-set_same, get_or-set_other}
use Rattle.graph.specs.Finite.{first, tab}
use Rattle.graph.specs.Admission.{LockBytes}
use Rattle.graph.proofs.Answers.{if_equal_le}
use Rattle.graph.proofs.Cases.{eq_or_ne, lt_or_le}
use Rattle.graph.proofs.Finite.{length_tab, get_d_tab}
use Rattle.graph.proofs.Sweep.{swept, swept_done, swept_left, swept_front, length_swept}
use Rattle.graph.proofs.Tests.{equal, unequal}
use Rattle.file_checks.specs.File.{be4, single_words, lock_indices}
use Rattle.file_checks.specs.Walk.{Locks}
use Rattle.file_checks.proofs.Checked.{lock_there, no_lock}
use Rattle.tagged_file.specs.Load.{among, free_locks}
use Rattle.tagged_file.specs.Inner.{locked_at}

-- the first of several indices, and one past it
module _ (x : ℕ) (l : List ℕ) (u : ℕ) where
  pub among_first : x ≡ u → among (x ∷ l) u ≡ 1
  among_first e = sym (equal x u 1 (among l u) e refl)

  pub among_past : x ≢ u → among (x ∷ l) u ≡ among l u
  among_past n = sym (unequal x u 1 (among l u) n refl)

pub among_le : (l : List ℕ) (u : ℕ) → among l u ≤ 1
among_le [] u = omega arith
among_le (x ∷ l) u = if_equal_le x u 1 (among l u) 1 (omega arith) (among_le l u)

-- the indices of the locks at the front
pub indices_more : (s : List ℕ) → get_or s 0 0 ≡ 6 → lock_indices s ≡ be4 s 3 ∷ lock_indices (drop 7 s)
unfolding lock_indices
indices_more s e = rw (lock_there s e) refl

pub indices_none : (s : List ℕ) → get_or s 0 0 ≢ 6 → lock_indices s ≡ []
unfolding lock_indices
indices_none s n = rw (no_lock s n) refl

one_stays : (a : ℕ) → a ≤ 1 → first a 1 ≡ 1
unfolding first
one_stays zero h = refl
one_stays (suc zero) h = refl
one_stays (suc (suc a)) h = absurd (omega arith)

pub first_none : (a b : ℕ) → b ≡ 0 → first a b ≡ a
unfolding first
first_none zero b e = e
first_none (suc a) b e = refl

-- locks set in t: a byte is 1 where its node is named, and else as it was
pub length_locked : (low : ℕ) (l t : List ℕ) → length (locked_at low l t) ≡ length t
length_locked low [] t = refl
length_locked low (u ∷ l) t = length_locked low l (set t (u - low) 1) ∙ length-set t (u - low) 1

module _ (low top : ℕ) where
  outside : (n : ℕ) (s : List ℕ) (u : ℕ) → Locks n s low top → top ≤ u → among (single_words n s) u ≡ 0
  outside zero s u k h = refl
  outside (suc n) s u k h = among_past (be4 s 3) (single_words n (drop 7 s)) u (λ e. omega (arith, k.0)) ∙ outside n (drop 7 s) u k.1 h

  locked_is : (n : ℕ) (s t : List ℕ) (p : ℕ) → Locks n s low top → p < length t
      → get_or (locked_at low (single_words n s) t) p 0 ≡ first (among (single_words n s) (low + p)) (get_or t p 0)
  unfolding first
  locked_is zero s t p k h = refl
  locked_is (suc n) s t p k h =
      let x : ℕ = be4 s 3 in
      let l : List ℕ = single_words n (drop 7 s) in
      let t₁ : List ℕ = set t (x - low) 1 in
      let d : length t₁ ≡ length t = length-set t (x - low) 1 in
      let i : get_or (locked_at low l t₁) p 0 ≡ first (among l (low + p)) (get_or t₁ p 0) = locked_is n (drop 7 s) t₁ p k.1 (omega arith) in
      ⊎_elim
      (λ (e : x ≡ low + p).
      let q : x - low ≡ p = omega arith in
      let w : get_or t₁ p 0 ≡ 1 = rw q (get_or-set_same t p 1 0 h) in
      i ∙ rw (w, among_first x l (low + p) e) (one_stays (among l (low + p)) (among_le l (low + p))))
      (λ (n : x ≢ low + p).
      let w : get_or t₁ p 0 ≡ get_or t p 0 = get_or-set_other t (x - low) p 1 0 (λ q. n (omega (arith, k.0))) in
      i ∙ rw (w, among_past x l (low + p) n) refl)
      (eq_or_ne x (low + p))

-- the bytes of n free nodes
module _ (n : ℕ) (ls : List ℕ) where
  long : length (tab n (λ v. 0)) ≡ n
  long = length_tab n (λ v. 0)

  pub free_at : (v : ℕ) → v < n → get_or (free_locks n ls) v 0 ≡ 0
  unfolding free_locks
  free_at v h = get_or-append (tab n (λ u. 0)) (drop n ls) 0 v (rw long h) ∙ get_d_tab n (λ u. 0) v h

  pub free_bytes : LockBytes n (free_locks n ls)
  unfolding free_locks
  free_bytes = record { enough = omega (arith, length-append (tab n (λ v. 0)) (drop n ls), long); bits = λ v h. omega (arith, free_at v h) }

-- the locks of n fields set over m free nodes
pub all_locked : (n : ℕ) (s : List ℕ) (low m : ℕ) (ls : List ℕ) → Locks n s low (low + m) → m ≤ length ls
    → locked_at low (single_words n s) (free_locks m ls) ≡ tab m (λ v. among (single_words n s) (low + v)) ++ drop m ls
unfolding free_locks first
all_locked n s low m ls k h =
    let l : List ℕ = single_words n s in
    let f : ℕ → ℕ = λ v. among l (low + v) in
    let t : List ℕ = swept (λ v. 0) ls m in
    let d : length (locked_at low l t) ≡ length ls = length_locked low l t ∙ length_swept (λ v. 0) ls m in
    rw (← swept_front (λ v. 0) ls m h, ← swept_front f ls m h)
    (ext_get_or 0 _ _ (d ∙ sym (length_swept f ls m))
    (λ p b.
    let b₁ : p < length ls = rw d at b in
    let i : get_or (locked_at low l t) p 0 ≡ first (among l (low + p)) (get_or t p 0) = locked_is low (low + m) n s t p k (omega (arith, length_swept (λ v. 0) ls m)) in
    ⊎_elim
    (λ (q : p < m). i ∙ rw (swept_done (λ v. 0) ls m p b₁ q, swept_done f ls m p b₁ q) (first_none (among l (low + p)) 0 refl))
    (λ (q : m ≤ p). i ∙ rw (swept_left (λ v. 0) ls m p b₁ q, swept_left f ls m p b₁ q, outside low (low + m) n s (low + p) k (omega arith)) refl)
    (lt_or_le p m)))
