-- A table whose first words of bits, and the indices beside them, are copied to the front of another: it is that one, filled. From the laws of places and of
-- sweeps.
use Rattle.std.proofs.Common.{◌≡◌, ℕ, ◌+◌, ◌*◌, ◌/◌, ◌<◌, ◌≤◌, List, ◌++◌, length, get_or, drop, set, sym, ◌∙◌, ⊎_elim, add-one, arith, ext_get_or}
use lib.ListN.{get_or-eq_default}
use Rattle.graph.specs.Finite.{tab}
use Rattle.graph.specs.Literals.{bit_at, index_at, literal_at, literals, held, filled}
use Rattle.graph.proofs.Cases.{lt_or_le}
use Rattle.graph.proofs.Filled.{length_filled, filled_in, filled_past}
use Rattle.graph.proofs.Finite.{length_tab, get_d_tab}
use Rattle.graph.proofs.Literals.{length_literals, literals_at, literal_in, held_literals, held_le, held_at}
use Rattle.graph.proofs.Sweep.{swept, length_swept, swept_done, swept_left, swept_suc, swept_front}

-- one place more of a list that is copied
pub copy_next : (f : ℕ → ℕ) (l t : List ℕ) (j : ℕ) → j < length l → t ≡ swept f l j → set t j (f j) ≡ swept f l (j + 1)
copy_next f l t j h e = rw (add-one j, e) (swept_suc f l j h)

copied_past : (f : ℕ → ℕ) (l : List ℕ) (n i : ℕ) → n ≤ i → get_or (swept f l n) i 0 ≡ get_or l i 0
copied_past f l n i h =
    ⊎_elim
    (λ (k : i < length l). swept_left f l n i k h)
    (λ (k : length l ≤ i). get_or-eq_default (swept f l n) 0 {n = i} (omega (arith, length_swept f l n)) ∙ sym (get_or-eq_default l 0 {n = i} k))
    (lt_or_le i (length l))

module _ (us bs vs ds : List ℕ) (m : ℕ) (from : 64 * m ≤ held (literals us bs)) (to : 64 * m ≤ held (literals vs ds)) where
  abbrev vs' : List ℕ
  vs' = swept (λ j. get_or us j 0) vs (64 * m)

  abbrev ds' : List ℕ
  ds' = swept (λ j. get_or bs j 0) ds m

  abbrev l : List ℕ
  l = literals vs ds

  abbrev ws : List ℕ
  ws = tab (64 * m) (λ j. get_or (literals us bs) j 0)

  same_vs : length vs' ≡ length vs
  same_vs = length_swept (λ j. get_or us j 0) vs (64 * m)

  same_ds : length ds' ≡ length ds
  same_ds = length_swept (λ j. get_or bs j 0) ds m

  ws_long : length ws ≡ 64 * m
  ws_long = length_tab (64 * m) (λ j. get_or (literals us bs) j 0)

  index_in : (i : ℕ) → i < 64 * m → index_at vs' i ≡ index_at us i
  unfolding index_at
  index_in i h = rw (swept_done (λ j. get_or us j 0) vs (64 * m) i (omega (arith, held_literals vs ds)) h)

  index_past : (i : ℕ) → 64 * m ≤ i → index_at vs' i ≡ index_at vs i
  unfolding index_at
  index_past i h = rw (copied_past (λ j. get_or us j 0) vs (64 * m) i h)

  bit_in_lem : (i : ℕ) → i < 64 * m → bit_at ds' i ≡ bit_at bs i
  unfolding bit_at
  bit_in_lem i h = rw (swept_done (λ j. get_or bs j 0) ds m (i / 64) (omega (arith, held_literals vs ds)) (omega arith))

  bit_past : (i : ℕ) → 64 * m ≤ i → bit_at ds' i ≡ bit_at ds i
  unfolding bit_at
  bit_past i h = rw (copied_past (λ j. get_or bs j 0) ds m (i / 64) (omega arith))

  place_past : (i : ℕ) → 64 * m ≤ i → literal_at vs' ds' i ≡ literal_at vs ds i
  unfolding literal_at
  place_past i h = rw (same_vs, same_ds, index_past i h, bit_past i h)

  place_in : (i : ℕ) → i < 64 * m → literal_at vs' ds' i ≡ get_or (literals us bs) i 0
  place_in i h =
      literal_in vs' ds' i (rw (same_vs, same_ds) (omega (arith, held_literals vs ds)))
      ∙ rw (index_in i h, bit_in_lem i h) (sym (held_at us bs i (omega arith)))

  same_length : length (literals vs' ds') ≡ length l
  same_length = rw (length_literals vs' ds', length_literals vs ds, same_vs, same_ds)

  pub words_copied : literals vs' ds' ≡ filled ws l
  words_copied =
      let n : length (filled ws l) ≡ length l = omega (arith, length_filled ws l, ws_long, held_le l) in
      ext_get_or 0 _ _ (same_length ∙ sym n)
      (λ i p.
      let q : i < length l = omega (arith, same_length) in
      literals_at vs' ds' i (omega (arith, length_literals vs' ds')) ∙
      ⊎_elim
      (λ (h : i < 64 * m). place_in i h ∙ sym (filled_in ws l i (omega (arith, ws_long)) ∙ get_d_tab (64 * m) (λ j. get_or (literals us bs) j 0) i h))
      (λ (h : 64 * m ≤ i). place_past i h ∙ sym (filled_past ws l i q (rw ws_long (omega arith)) ∙ literals_at vs ds i (omega (arith, length_literals vs ds))))
      (lt_or_le i (64 * m)))

  -- as the two loops leave them
  pub copied : (vs₁ ds₁ : List ℕ) → vs₁ ≡ tab (64 * m) (λ j. get_or us j 0) ++ drop (64 * m) vs → ds₁ ≡ tab m (λ j. get_or bs j 0) ++ drop m ds → literals vs₁ ds₁ ≡ filled ws l
  copied vs₁ ds₁ p q =
      let a : vs₁ ≡ vs' = p ∙ sym (swept_front (λ j. get_or us j 0) vs (64 * m) (omega (arith, held_literals vs ds))) in
      let b : ds₁ ≡ ds' = q ∙ sym (swept_front (λ j. get_or bs j 0) ds m (omega (arith, held_literals vs ds))) in
      rw (a, b) words_copied
