-- A table rewritten in place from the front: place i holds f i below j, and what it held from j on. From the laws on
-- tables.
use Rattle.std.proofs.Common.{◌≡◌, ℕ, suc, ◌+◌, ◌-◌, ◌<◌, ◌≤◌, cond, ltb, List, ◌++◌, length, get_or, drop, set, sym, ap, ◌∙◌, ⊎_elim, eq-or-lt_of_le, arith, length-append, length-drop, length-set, get_or-drop, get_or-set_other, get_or-set_same, get_or-append-add, ext_get_or, le-ltb, lt-ltb}
use lib.ListN.{get_or-append}
use Rattle.graph.specs.Finite.{tab}
use Rattle.graph.proofs.Cases.{lt_or_le}
use Rattle.graph.proofs.Finite.{length_tab, get_d_tab}

pub swept : (ℕ → ℕ) → List ℕ → ℕ → List ℕ
swept f l j = tab (length l) (λ i. cond (ltb i j) (f i) (get_or l i 0))

module _ (f : ℕ → ℕ) (l : List ℕ) where
  pub length_swept : (j : ℕ) → length (swept f l j) ≡ length l
  unfolding swept
  length_swept j = length_tab _ _

  pub swept_done : (j i : ℕ) → i < length l → i < j → get_or (swept f l j) i 0 ≡ f i
  unfolding swept
  swept_done j i h k = get_d_tab _ _ i h ∙ rw (lt-ltb i j k)

  pub swept_left : (j i : ℕ) → i < length l → j ≤ i → get_or (swept f l j) i 0 ≡ get_or l i 0
  unfolding swept
  swept_left j i h k = get_d_tab _ _ i h ∙ rw (le-ltb i j k)

  pub swept_zero : l ≡ swept f l 0
  swept_zero = ext_get_or 0 _ _ (sym (length_swept 0)) (λ i h. sym (swept_left 0 i h (omega arith)))

  pub swept_suc : (j : ℕ) → j < length l → set (swept f l j) j (f j) ≡ swept f l (suc j)
  swept_suc j h =
      ext_get_or 0 _ _ (simp (length-set, length_swept))
      (λ i k.
      let b : i < length l = simp (length-set, length_swept) at k in
      ⊎_elim
      (λ (p : i < j). get_or-set_other (swept f l j) j i (f j) 0 (omega arith) ∙ swept_done j i b p ∙ sym (swept_done (suc j) i b (omega arith)))
      (λ (p : j ≤ i).
      ⊎_elim
      (λ (e : j ≡ i). rw (← e) (get_or-set_same (swept f l j) j (f j) 0 (rw length_swept h) ∙ sym (swept_done (suc j) j h (omega arith))))
      (λ (q : j < i). get_or-set_other (swept f l j) j i (f j) 0 (omega arith) ∙ swept_left j i b p ∙ sym (swept_left (suc j) i b q))
      (eq-or-lt_of_le p))
      (lt_or_le i j))

  -- up to place n: the front is f, the rest is left
  pub swept_front : (n : ℕ) → n ≤ length l → swept f l n ≡ tab n f ++ drop n l
  swept_front n h =
      ext_get_or 0 _ _ (simp (length_swept, length-append, length_tab, length-drop) (omega arith))
      (λ i k.
      let t = length_tab n f in
      let b : i < length l = rw length_swept at k in
      ⊎_elim
      (λ (p : i < n). swept_done n i b p ∙ sym (get_or-append (tab n f) (drop n l) 0 i (omega arith) ∙ get_d_tab n f i p))
      (λ (p : n ≤ i).
      let e : n + (i - n) ≡ i = omega arith in
      let q : length (tab n f) + (i - n) ≡ i = omega arith in
      swept_left n i b p
      ∙ sym (ap (λ (m : ℕ). get_or (tab n f ++ drop n l) m 0) (sym q) ∙ get_or-append-add (tab n f) (drop n l) (i - n) 0 ∙ get_or-drop n l (i - n) 0
      ∙ ap (λ (m : ℕ). get_or l m 0) e))
      (lt_or_le i n))
