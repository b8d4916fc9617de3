-- A row entered from the last word down: what each word is, and one word more. From the laws on tables and tests.
use mathlib.Core.Path.{◌≡◌, refl, sym, ap, ◌∙◌}
use mathlib.Core.List.{List}
use mathlib.Core.Logic.{⊎_elim, ◌≢◌}
use Prim.Native.Nat.{ℕ, suc, ◌+◌, ◌-◌, ◌≤◌, ◌<◌}
use native.Mathlib.Numerals.{add-one}
use native.Mathlib.Omega.{arith}
use lib.ListN.{length, get_or, set, length-set}
use lib.Seq.{ext_get_or, get_or-set_same, get_or-set_other}
use Rattle.graph.specs.Finite.{tab, if_less}
use Rattle.graph.proofs.Cases.{lt_or_le, eq_or_ne}
use Rattle.graph.proofs.Finite.{length_tab, get_d_tab}
use Rattle.graph.proofs.Tests.{less, no_less, equal, unequal}
use Rattle.class_figures.specs.Call.{record_length, entered_at, entered}

-- the word at each place
module _ (row r : List ℕ) where
  pub at_count : get_or r 0 0 + 1 ≡ entered_at row r 0
  unfolding entered_at
  at_count = equal 0 0 _ _ refl refl

  module _ (j : ℕ) (d : j ≢ 0) where
    pub at_total : j < 6 → get_or r j 0 + get_or row (j - 1) 0 ≡ entered_at row r j
    unfolding entered_at
    at_total h = unequal j 0 _ _ d (less j 6 _ _ h refl)

    module _ (f : 6 ≤ j) where
      pub at_newest : j < 11 → get_or row (j - 6) 0 ≡ entered_at row r j
      unfolding entered_at
      at_newest h = unequal j 0 _ _ d (no_less j 6 _ _ f (less j 11 _ _ h refl))

      module _ (e : 11 ≤ j) where
        pub at_older : j < record_length → get_or r (j - 5) 0 ≡ entered_at row r j
        unfolding entered_at
        at_older h = unequal j 0 _ _ d (no_less j 6 _ _ f (no_less j 11 _ _ e (less j record_length _ _ h refl)))

        pub at_tail : record_length ≤ j → get_or r j 0 ≡ entered_at row r j
        unfolding entered_at
        at_tail h = unequal j 0 _ _ d (no_less j 6 _ _ f (no_less j 11 _ _ e (no_less j record_length _ _ h refl)))

  -- it looks at no higher place
  pub agrees : (r' : List ℕ) (j : ℕ) → ((i : ℕ) → i ≤ j → get_or r' i 0 ≡ get_or r i 0) → entered_at row r' j ≡ entered_at row r j
  unfolding entered_at
  agrees r' j h = rw (h 0 (omega arith), h j (omega arith), h (j - 5) (omega arith))

  fallen_at : ℕ → ℕ → ℕ
  fallen_at j i = if_less i j (get_or r i 0) (entered_at row r i)

  -- the record with its words from place j on as they will be
  pub fallen : ℕ → List ℕ
  fallen j = tab (length r) (fallen_at j)

  pub length_fallen : (j : ℕ) → length (fallen j) ≡ length r
  unfolding fallen
  length_fallen j = length_tab (length r) (fallen_at j)

  pub fallen_left : (j i : ℕ) → i < length r → i < j → get_or (fallen j) i 0 ≡ get_or r i 0
  unfolding fallen fallen_at
  fallen_left j i h l = get_d_tab (length r) (fallen_at j) i h ∙ sym (less i j (get_or r i 0) (entered_at row r i) l refl)

  fallen_done : (j i : ℕ) → i < length r → j ≤ i → get_or (fallen j) i 0 ≡ entered_at row r i
  unfolding fallen fallen_at
  fallen_done j i h l = get_d_tab (length r) (fallen_at j) i h ∙ sym (no_less i j (get_or r i 0) (entered_at row r i) l refl)

  pub fallen_start : r ≡ fallen record_length
  fallen_start =
      ext_get_or 0 _ _ (sym (length_fallen record_length))
      (λ i h.
      ⊎_elim
      (λ (l : i < record_length). sym (fallen_left record_length i h l))
      (λ (l : record_length ≤ i). at_tail i (omega arith) (omega arith) (omega arith) l ∙ sym (fallen_done record_length i h l))
      (lt_or_le i record_length))

  pub fallen_end : fallen 0 ≡ entered row r
  unfolding entered
  fallen_end =
      ext_get_or 0 _ _ (length_fallen 0 ∙ sym (length_tab (length r) (entered_at row r)))
      (λ i h.
      let b : i < length r = rw length_fallen at h in
      fallen_done 0 i b (omega arith) ∙ sym (get_d_tab (length r) (entered_at row r) i b))

  pub fallen_more : (j w : ℕ) → j < length r → w ≡ entered_at row r j → set (fallen (suc j)) j w ≡ fallen j
  fallen_more j w h e =
      ext_get_or 0 _ _ (simp (length-set, length_fallen))
      (λ i k.
      let b : i < length r = simp (length-set, length_fallen) at k in
      ⊎_elim
      (λ (q : i ≡ j).
      rw q (get_or-set_same (fallen (suc j)) j w 0 (rw length_fallen h) ∙ e ∙ sym (fallen_done j j h (omega arith))))
      (λ (q : i ≢ j).
      get_or-set_other (fallen (suc j)) j i w 0 q ∙
      ⊎_elim
      (λ (l : i < j). fallen_left (suc j) i b (omega arith) ∙ sym (fallen_left j i b l))
      (λ (l : j ≤ i). fallen_done (suc j) i b (omega arith) ∙ sym (fallen_done j i b l))
      (lt_or_le i j))
      (eq_or_ne i j))

  -- a word worked out from the record as it is then
  pub fallen_next : (book : List ℕ) (j w : ℕ) → j < length r → book ≡ fallen (j + 1) → w ≡ entered_at row book j → set book j w ≡ fallen j
  fallen_next book j w h e q =
      let s : book ≡ fallen (suc j) = rw (add-one j) at e in
      let v : w ≡ entered_at row r j = q ∙ agrees book j (λ i l. ap (λ (b : List ℕ). get_or b i 0) s ∙ fallen_left (suc j) i (omega arith) (omega arith)) in
      rw s (fallen_more j w h v)
