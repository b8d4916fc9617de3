-- A record that stands for rows: one row more, and its figures. From the laws on entering and on sums.
use mathlib.Core.Path.{◌≡◌, refl, sym, ap, ◌∙◌}
use mathlib.Core.List.{List, [], ◌∷◌}
use mathlib.Core.Logic.{⊎_elim, ◌≢◌}
use Prim.Native.Nat.{ℕ, zero, suc, ◌+◌, ◌-◌, ◌*◌, ◌/◌, ◌%◌, ◌≤◌, ◌<◌, min}
use native.Mathlib.Omega.{arith}
use lib.ListN.{length, get_or, take, length-take}
use Rattle.graph.specs.Finite.{sum, if_less, if_equal}
use Rattle.graph.proofs.Cases.{lt_or_le, eq_or_ne}
use Rattle.graph.proofs.Finite.{length_tab, get_d_tab, sum_same}
use Rattle.graph.proofs.Tests.{less, no_less, equal, unequal}
use Rattle.class_figures.specs.Figures.{total, figures, afresh}
use Rattle.class_figures.specs.Call.{record_length, entered_at, entered, latest_total, all_of, latest_of}
use Rattle.class_figures.specs.Promises.{Empty}
use Rattle.class_figures.proofs.Falling.{at_count, at_total, at_newest, at_older}

-- figure k of row i
abbrev pub figure_of : List (List ℕ) → ℕ → ℕ → ℕ
figure_of rs i k = get_or (get_or rs i []) k 0

-- the word at place j of the record of the rows rs, the newest first
pub place_of : List (List ℕ) → ℕ → ℕ
place_of rs j = if_equal j 0 (length rs) (if_less j 6 (total (j - 1) rs) (figure_of rs ((j - 6) / 5) ((j - 6) % 5)))

pub record Standing (rs : List (List ℕ)) (r : List ℕ) : Type 0 where
  pub long : record_length ≤ length r
  pub holds : (j : ℕ) → j < record_length → get_or r j 0 ≡ place_of rs j

module _ (rs : List (List ℕ)) where
  pub place_count : length rs ≡ place_of rs 0
  unfolding place_of
  place_count = equal 0 0 _ _ refl refl

  pub place_total : (j : ℕ) → j ≢ 0 → j < 6 → total (j - 1) rs ≡ place_of rs j
  unfolding place_of
  place_total j d h = unequal j 0 _ _ d (less j 6 _ _ h refl)

  pub place_row : (j : ℕ) → 6 ≤ j → figure_of rs ((j - 6) / 5) ((j - 6) % 5) ≡ place_of rs j
  unfolding place_of
  place_row j h = unequal j 0 _ _ (omega arith) (no_less j 6 _ _ h refl)

total_more : (k : ℕ) (row : List ℕ) (rs : List (List ℕ)) → total k (row ∷ rs) ≡ get_or row k 0 + total k rs
unfolding total
total_more k row rs = refl

module _ (row : List ℕ) (rs : List (List ℕ)) (r : List ℕ) (s : Standing rs r) where
  -- the words of the record with one row more
  more_total : (j : ℕ) → j ≢ 0 → j < 6 → get_or r j 0 + get_or row (j - 1) 0 ≡ place_of (row ∷ rs) j
  more_total j d h =
      let e = s.holds j (omega arith) ∙ sym (place_total rs j d h) in
      let t = total_more (j - 1) row rs in
      let g : get_or r j 0 + get_or row (j - 1) 0 ≡ total (j - 1) (row ∷ rs) = omega arith in
      g ∙ place_total (row ∷ rs) j d h

  more_newest : (j : ℕ) → 6 ≤ j → j < 11 → get_or row (j - 6) 0 ≡ place_of (row ∷ rs) j
  more_newest j h l =
      let q : (j - 6) / 5 ≡ 0 = omega arith in
      let m : (j - 6) % 5 ≡ j - 6 = omega arith in
      let e : figure_of (row ∷ rs) ((j - 6) / 5) ((j - 6) % 5) ≡ get_or row (j - 6) 0 = rw (q, m) in
      sym e ∙ place_row (row ∷ rs) j h

  more_older : (j : ℕ) → 11 ≤ j → j < record_length → get_or r (j - 5) 0 ≡ place_of (row ∷ rs) j
  more_older j h l =
      let q : (j - 6) / 5 ≡ suc ((j - 5 - 6) / 5) = omega arith in
      let m : (j - 6) % 5 ≡ (j - 5 - 6) % 5 = omega arith in
      let e : figure_of (row ∷ rs) ((j - 6) / 5) ((j - 6) % 5) ≡ figure_of rs ((j - 5 - 6) / 5) ((j - 5 - 6) % 5) = rw (q, m) in
      s.holds (j - 5) (omega arith) ∙ sym (place_row rs (j - 5) (omega arith)) ∙ sym e ∙ place_row (row ∷ rs) j (omega arith)

  more_at : (j : ℕ) → j < record_length → entered_at row r j ≡ place_of (row ∷ rs) j
  more_at j h =
      ⊎_elim
      (λ (z : j ≡ 0).
      let e = s.holds 0 (omega arith) ∙ sym (place_count rs) in
      let g : get_or r 0 0 + 1 ≡ suc (length rs) = omega arith in
      rw z (sym (at_count row r) ∙ g ∙ place_count (row ∷ rs)))
      (λ (d : j ≢ 0).
      ⊎_elim
      (λ (l : j < 6). sym (at_total row r j d l) ∙ more_total j d l)
      (λ (f : 6 ≤ j).
      ⊎_elim
      (λ (l : j < 11). sym (at_newest row r j d f l) ∙ more_newest j f l)
      (λ (e : 11 ≤ j). sym (at_older row r j d f e h) ∙ more_older j e h)
      (lt_or_le j 11))
      (lt_or_le j 6))
      (eq_or_ne j 0)

  pub standing_more : Standing (row ∷ rs) (entered row r)
  unfolding entered
  standing_more =
      record {
        long = rw (length_tab (length r) (entered_at row r)) s.long;
        holds = λ j h. get_d_tab (length r) (entered_at row r) j (omega (arith, s.long)) ∙ more_at j h;
      }

total_none : (k : ℕ) → total k [] ≡ 0
unfolding total
total_none k = refl

pub standing_none : (r : List ℕ) → Empty r → Standing [] r
standing_none r e =
    record {
      long = e.long;
      holds = λ j h.
          e.zeros j h ∙
          ⊎_elim
          (λ (z : j ≡ 0). rw z (place_count []))
          (λ (d : j ≢ 0).
          ⊎_elim
          (λ (l : j < 6). sym (total_none (j - 1)) ∙ place_total [] j d l)
          (λ (f : 6 ≤ j). place_row [] j f)
          (lt_or_le j 6))
          (eq_or_ne j 0);
    }

-- the first n rows, summed either way
total_take : (k : ℕ) (rs : List (List ℕ)) (n : ℕ) → total k (take (suc n) rs) ≡ total k (take n rs) + figure_of rs n k
unfolding total
total_take k [] zero = refl
total_take k [] (suc n) = refl
total_take k (row ∷ rs) zero = omega arith
total_take k (row ∷ rs) (suc n) = omega (arith, total_take k rs n)

sum_take : (k : ℕ) (rs : List (List ℕ)) (n : ℕ) → sum n (λ i. figure_of rs i k) ≡ total k (take n rs)
unfolding sum
sum_take k rs zero = sym (total_none k)
sum_take k rs (suc n) = omega (arith, sum_take k rs n, total_take k rs n)

figures_same : (n m : ℕ) (t u : ℕ → ℕ) → n ≡ m → ((k : ℕ) → k < 5 → t k ≡ u k) → figures n t ≡ figures m u
unfolding figures
figures_same n m t u e h = rw (e, h 0 (omega arith), h 1 (omega arith), h 2 (omega arith), h 3 (omega arith), h 4 (omega arith))

module _ (rs : List (List ℕ)) (r : List ℕ) (s : Standing rs r) where
  pub counts : get_or r 0 0 ≡ length rs
  counts = s.holds 0 (omega arith) ∙ sym (place_count rs)

  pub standing_all : all_of r ≡ afresh rs
  unfolding all_of afresh
  standing_all =
      figures_same _ _ _ _ counts
      (λ k h.
      let e : 1 + k - 1 ≡ k = omega arith in
      s.holds (1 + k) (omega arith) ∙ sym (place_total rs (1 + k) (omega arith) (omega arith)) ∙ ap (λ (i : ℕ). total i rs) e)

  pub standing_latest : latest_of r ≡ afresh (take 16 rs)
  unfolding latest_of latest_total afresh
  standing_latest =
      figures_same _ _ _ _ (ap (min 16) counts ∙ sym (length-take 16 rs))
      (λ k h.
      sum_same 16 (λ i. get_or r (6 + 5 * i + k) 0) (λ i. figure_of rs i k)
      (λ i l.
      let q : (6 + 5 * i + k - 6) / 5 ≡ i = omega arith in
      let m : (6 + 5 * i + k - 6) % 5 ≡ k = omega arith in
      s.holds (6 + 5 * i + k) (omega arith) ∙ sym (place_row rs (6 + 5 * i + k) (omega arith)) ∙ rw (q, m))
      ∙ sum_take k rs 16)
