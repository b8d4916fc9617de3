-- The loader's walk over written locks: it finds no fault, and the nodes that they name are those that are locked. From the laws on one
-- written field and on the nodes that locks name.
use Prim.Native.Nat.{ℕ, zero, suc, ◌+◌, ◌<◌, ◌≤◌}
use mathlib.Core.Path.{◌≡◌, refl, sym, ap, ◌∙◌}
use mathlib.Core.Logic.{⊎_elim, ◌≢◌}
use mathlib.Core.List.{List, ◌++◌, append_assoc}
use native.Mathlib.Omega.{arith}
use native.Mathlib.Nat.{eq-or-lt_of_le}
use lib.ListN.{get_or}
use Rattle.graph.proofs.Cases.{eq_or_ne}
use Rattle.graph.proofs.Tests.{none}
use Rattle.file_checks.specs.File.{lock_count, lock_fields_number, lock_indices}
use Rattle.file_checks.proofs.Checked.{locks_step, locks_done}
use Rattle.tagged_file.specs.Load.{among}
use Rattle.tagged_file.specs.Write.{big, field_of, lock_field_at, end_field, in_order}
use Rattle.tagged_file.proofs.FieldBytes.{locked_field, free_field}
use Rattle.tagged_file.proofs.Named.{among_first, among_past, indices_more, indices_none}
use Rattle.tagged_file.proofs.ReadBack.{lock_read, end_read, end_tag}

-- the locks of k nodes from v on, of which the first of all has index i, and the end
abbrev pub locks_of : ℕ → List ℕ → ℕ → ℕ → List ℕ
locks_of i ls v k = in_order (lock_field_at i ls) v k ++ end_field

module _ (i : ℕ) (ls : List ℕ) where
  locked_step : (v k : ℕ) → get_or ls v 0 ≡ 1 → locks_of i ls v (suc k) ≡ field_of 6 (big 4 (i + v)) ++ locks_of i ls (v + 1) k
  locked_step v k e = rw (locked_field i ls v e) (append_assoc (field_of 6 (big 4 (i + v))) (in_order (lock_field_at i ls) (v + 1) k) end_field)

  free_step : (v k : ℕ) → get_or ls v 0 ≢ 1 → locks_of i ls v (suc k) ≡ locks_of i ls (v + 1) k
  free_step v k n = rw (free_field i ls v n)

  end_other : get_or end_field 0 0 ≢ 6
  end_other e = omega (arith, end_tag)

  pub locks_number_lem : (top : ℕ) → top ≤ 1000000 → (k v low : ℕ) → low ≤ i + v → i + v + k ≤ top
      → lock_fields_number (lock_count (locks_of i ls v k)) (locks_of i ls v k) low top ≡ 0
  locks_number_lem top m zero v low h t = locks_done end_field low top end_other ∙ end_read
  locks_number_lem top m (suc k) v low h t =
      ⊎_elim
      (λ (e : get_or ls v 0 ≡ 1).
      let r = lock_read (i + v) (locks_of i ls (v + 1) k) (omega arith) in
      rw (locked_step v k e)
      (locks_step (field_of 6 (big 4 (i + v)) ++ locks_of i ls (v + 1) k) low top r.tag
      ∙ sym (none _ _ (r.number low top h (omega arith)) (sym (rw (r.after, r.one) (locks_number_lem top m k (v + 1) (i + v + 1) (omega arith) (omega arith)))))))
      (λ (n : get_or ls v 0 ≢ 1). rw (free_step v k n) (locks_number_lem top m k (v + 1) low (omega arith) (omega arith)))
      (eq_or_ne (get_or ls v 0) 1)

  free_is : (u : ℕ) → get_or ls u 0 ≤ 1 → get_or ls u 0 ≢ 1 → 0 ≡ get_or ls u 0
  free_is u b n = omega arith

  -- no node before the first
  none_before : (k v u : ℕ) → i + v + k ≤ 1000000 → u < v → among (lock_indices (locks_of i ls v k)) (i + u) ≡ 0
  none_before zero v u m h = rw (indices_none end_field end_other) refl
  none_before (suc k) v u m h =
      ⊎_elim
      (λ (e : get_or ls v 0 ≡ 1).
      let r = lock_read (i + v) (locks_of i ls (v + 1) k) (omega arith) in
      rw (locked_step v k e, indices_more (field_of 6 (big 4 (i + v)) ++ locks_of i ls (v + 1) k) r.tag, r.one, r.after)
      (among_past (i + v) (lock_indices (locks_of i ls (v + 1) k)) (i + u) (λ q. omega arith) ∙ none_before k (v + 1) u (omega arith) (omega arith)))
      (λ (n : get_or ls v 0 ≢ 1). rw (free_step v k n) (none_before k (v + 1) u (omega arith) (omega arith)))
      (eq_or_ne (get_or ls v 0) 1)

  pub locks_named : (k v u : ℕ) → i + v + k ≤ 1000000 → v ≤ u → u < v + k → get_or ls u 0 ≤ 1
      → among (lock_indices (locks_of i ls v k)) (i + u) ≡ get_or ls u 0
  locks_named zero v u m h l b = absurd (omega arith)
  locks_named (suc k) v u m h l b =
      ⊎_elim
      (λ (e : get_or ls v 0 ≡ 1).
      let s : List ℕ = locks_of i ls (v + 1) k in
      let r = lock_read (i + v) s (omega arith) in
      rw (locked_step v k e, indices_more (field_of 6 (big 4 (i + v)) ++ s) r.tag, r.one, r.after)
      (⊎_elim
      (λ (q : v ≡ u). among_first (i + v) (lock_indices s) (i + u) (omega arith) ∙ sym e ∙ ap (λ (j : ℕ). get_or ls j 0) q)
      (λ (q : v < u). among_past (i + v) (lock_indices s) (i + u) (λ z. omega arith) ∙ locks_named k (v + 1) u (omega arith) (omega arith) (omega arith) b)
      (eq-or-lt_of_le h)))
      (λ (n : get_or ls v 0 ≢ 1).
      rw (free_step v k n)
      (⊎_elim
      (λ (q : v ≡ u). none_before k (v + 1) u (omega arith) (omega arith) ∙ free_is u b (λ z. n (ap (λ (j : ℕ). get_or ls j 0) q ∙ z)))
      (λ (q : v < u). locks_named k (v + 1) u (omega arith) (omega arith) (omega arith) b)
      (eq-or-lt_of_le h)))
      (eq_or_ne (get_or ls v 0) 1)
