-- Accepted locks and the end are, byte for byte, the fields of the lock bytes read from them. From the laws on one field and on the nodes
-- that locks name.
use Prim.Native.Nat.{ℕ, zero, suc, ◌+◌, ◌<◌, ◌≤◌}
use mathlib.Core.Path.{◌≡◌, refl, sym, ap, ◌∙◌}
use mathlib.Core.Logic.{◌⊎◌, inl, inr, ⊎_elim, ◌≢◌}
use mathlib.Core.List.{List, ◌++◌, append_assoc}
use native.Mathlib.Omega.{arith}
use lib.ListN.{get_or, drop}
use Rattle.graph.proofs.Cases.{eq_or_ne}
use Rattle.graph.proofs.Tests.{less, no_less, none, both}
use Rattle.file_checks.specs.File.{be4, lock_field_number, lock_count, lock_fields_number, single_words, lock_indices}
use Rattle.file_checks.proofs.Checked.{no_lock, locks_step, locks_done, lock_passed}
use Rattle.tagged_file.specs.Load.{among}
use Rattle.tagged_file.specs.Write.{lock_field_at, end_field, in_order}
use Rattle.tagged_file.specs.Promises.{Bytes}
use Rattle.tagged_file.proofs.BigEndian.{bytes_drop}
use Rattle.tagged_file.proofs.FieldBytes.{locked_field, free_field}
use Rattle.tagged_file.proofs.Named.{among_first, among_past, indices_more}
use Rattle.tagged_file.proofs.OneField.{lock_back, end_back}

-- a node that the first lock does not name is passed
raised : (n : ℕ) (s : List ℕ) (low top : ℕ) → lock_fields_number n s low top ≡ 0 → (0 < n → be4 s 3 ≢ low) → lock_fields_number n s (low + 1) top ≡ 0
unfolding lock_field_number
raised zero s low top e d = e
raised (suc n) s low top e d =
    let f = both _ _ e in
    let p = lock_passed s low top f.0 in
    let z : be4 s 3 ≢ low = d (omega arith) in
    sym (none _ _ (sym (none _ _ (both _ _ f.0).0 (no_less _ _ _ _ (omega arith) (less _ _ _ _ p.below refl)))) (sym f.1))

-- no lock names it
none_below : (n : ℕ) (s : List ℕ) (low top u : ℕ) → lock_fields_number n s low top ≡ 0 → u < low → among (single_words n s) u ≡ 0
none_below zero s low top u e h = refl
none_below (suc n) s low top u e h =
    let f = both _ _ e in
    let p = lock_passed s low top f.0 in
    among_past (be4 s 3) (single_words n (drop 7 s)) u (λ q. omega arith) ∙ none_below n (drop 7 s) (be4 s 3 + 1) top u f.1 (omega arith)

none_named : (s : List ℕ) (low top u : ℕ) → lock_fields_number (lock_count s) s low top ≡ 0 → u < low → among (lock_indices s) u ≡ 0
unfolding lock_indices
none_named s low top u e h = none_below (lock_count s) s low top u e h

-- the first lock names u, or it does not
record Names (s : List ℕ) (u : ℕ) : Type 0 where
  tag : get_or s 0 0 ≡ 6
  index : be4 s 3 ≡ u

names_or_not : (s : List ℕ) (u : ℕ) → Names s u ⊎ (0 < lock_count s → be4 s 3 ≢ u)
names_or_not s u =
    ⊎_elim
    (λ (t : get_or s 0 0 ≡ 6).
    ⊎_elim (λ (e : be4 s 3 ≡ u). inl (record { tag = t; index = e })) (λ (n : be4 s 3 ≢ u). inr (λ h. n)) (eq_or_ne (be4 s 3) u))
    (λ (t : get_or s 0 0 ≢ 6). inr (λ h. absurd (omega (arith, no_lock s t))))
    (eq_or_ne (get_or s 0 0) 6)

module _ (i : ℕ) (ls : List ℕ) where
  -- the lock bytes from place p on are those that the locks say
  abbrev Says : List ℕ → ℕ → ℕ → Type 0
  Says s p n = (k : ℕ) → k < n → get_or ls (p + k) 0 ≡ among (lock_indices s) (i + p + k)

  says_next : (s : List ℕ) (p n : ℕ) → Says s p (suc n) → Says s (p + 1) n
  says_next s p n w k l = ap (λ (j : ℕ). get_or ls j 0) (omega arith) ∙ w (suc k) (omega arith) ∙ ap (among (lock_indices s)) (omega arith)

  module _ (top : ℕ) where
    none_left : (s : List ℕ) (low : ℕ) → top ≤ low → lock_fields_number (lock_count s) s low top ≡ 0 → get_or s 0 0 ≢ 6
    none_left s low h e t =
        let p = lock_passed s low top (both _ _ (sym (locks_step s low top t) ∙ e)).0 in
        omega arith

    pub locks_back : (n : ℕ) (s : List ℕ) (p : ℕ) → Bytes s → top ≡ i + p + n → lock_fields_number (lock_count s) s (i + p) top ≡ 0 → Says s p n
        → s ≡ in_order (lock_field_at i ls) p n ++ end_field
    locks_back zero s p h q e w = end_back s (sym (locks_done s (i + p) top (none_left s (i + p) (omega arith) e)) ∙ e)
    locks_back (suc n) s p h q e w =
        let a : i + p + 1 ≡ i + (p + 1) = omega arith in
        let x : get_or ls p 0 ≡ among (lock_indices s) (i + p) =
        ap (λ (k : ℕ). get_or ls k 0) (omega arith) ∙ w 0 (omega arith) ∙ ap (among (lock_indices s)) (omega arith) in
        ⊎_elim
        (λ (m : Names s (i + p)).
        let f = both _ _ (sym (locks_step s (i + p) top m.tag) ∙ e) in
        let y = indices_more s m.tag in
        let o : among (lock_indices s) (i + p) ≡ 1 = rw y (among_first (be4 s 3) (lock_indices (drop 7 s)) (i + p) m.index) in
        let r = locks_back n (drop 7 s) (p + 1) (bytes_drop 7 s h) (omega arith) (rw (m.index, a) at f.1)
        (λ k l.
        says_next s p n w k l ∙ rw y (among_past (be4 s 3) (lock_indices (drop 7 s)) (i + (p + 1) + k) (λ z. omega (arith, m.index)))) in
        lock_back s (i + p) top h f.0 ∙ rw (m.index, locked_field i ls p (x ∙ o), append_assoc, ← r))
        (λ (d : 0 < lock_count s → be4 s 3 ≢ i + p).
        let c : lock_fields_number (lock_count s) s (i + p + 1) top ≡ 0 = raised (lock_count s) s (i + p) top e d in
        let z : among (lock_indices s) (i + p) ≡ 0 = none_named s (i + p + 1) top (i + p) c (omega arith) in
        let r = locks_back n s (p + 1) h (omega arith) (rw a at c) (says_next s p n w) in
        rw (free_field i ls p (λ y. omega arith)) r)
        (names_or_not s (i + p))
