-- What the first fault of a class's calls says where there is none. From the laws on tests.
use mathlib.Core.Path.{◌≡◌, refl, sym}
use mathlib.Core.List.{List, [], ◌∷◌}
use mathlib.Core.Logic.{⊎_elim}
use Prim.Native.Nat.{ℕ, zero, suc, ◌+◌, ◌≤◌, ◌<◌}
use native.Mathlib.Nat.{not-suc-le-zero, le_of_suc-le-suc}
use native.Mathlib.Omega.{arith}
use lib.IntN.{ℤ}
use lib.ListN.{length, get_or, take, drop}
use Rattle.std.specs.List.{list_any}
use Rattle.std.proofs.lemmas.Bool.{lt-leb}
use Rattle.std.proofs.lemmas.List.Folds.{list_any_none, list_any_at}
use Rattle.std.proofs.lemmas.List.Elements.{All-from_get_or}
use Rattle.std.proofs.Common.{true, false, nat_le, ◌⊎◌, inl, inr, le-leb, length-take, get_or-take, get_or-drop, ◌∙◌}
use Rattle.class_figures.specs.Figures.{figures}
use Rattle.graph.specs.Finite.{first, first_of}
use Rattle.graph.specs.Answer.{Answer}
use Rattle.graph.proofs.Cases.{lt_or_le}
use Rattle.graph.proofs.Tests.{less, no_less, fault, none, both, on, off, all_none, each_none}
use Rattle.class_figures.specs.Call.{record_length, figure_number, record_number, length_number, figures_number}
use Rattle.class_figures.specs.Inner.{Roomy}

pub get_d_past : (l : List ℕ) (i : ℕ) → length l ≤ i → get_or l i 0 ≡ 0
get_d_past [] i h = refl
get_d_past (x ∷ l) zero h = absurd (not-suc-le-zero h)
get_d_past (x ∷ l) (suc i) h = get_d_past l i (le_of_suc-le-suc h)

module _ (r : List ℕ) where
  pub low_figure : (j : ℕ) → get_or r j 0 < 1099511627776 → figure_number r j ≡ 0
  unfolding figure_number
  low_figure j h = sym (less (get_or r j 0) 1099511627776 0 3 h refl)

  high_figure : (j : ℕ) → 1099511627776 ≤ get_or r j 0 → figure_number r j ≡ 3
  unfolding figure_number
  high_figure j h = sym (no_less (get_or r j 0) 1099511627776 0 3 h refl)

  figure_low : (j : ℕ) → figure_number r j ≡ 0 → get_or r j 0 < 1099511627776
  unfolding figure_number
  figure_low j e = (on (get_or r j 0) 1099511627776 2 0 e).0

  figure_cases : (n : ℕ) → (first_of n (figure_number r) ≡ 0) ⊎ (first_of n (figure_number r) ≡ 3)
  unfolding first_of
  figure_cases zero = inl refl
  figure_cases (suc n) =
      ⊎_elim
      (λ (e : first_of n (figure_number r) ≡ 0).
      ⊎_elim
      (λ (l : get_or r n 0 < 1099511627776). inl (sym (none _ _ e (sym (low_figure n l)))))
      (λ (l : 1099511627776 ≤ get_or r n 0). inr (sym (none _ _ e (sym (high_figure n l)))))
      (lt_or_le (get_or r n 0) 1099511627776))
      (λ (e : first_of n (figure_number r) ≡ 3). inr (sym (fault _ _ (sym e) (λ z. omega arith))))
      (figure_cases n)

  -- the words that a short record lacks are as good as 0
  pub high_word : list_any (nat_le 1099511627776) (take record_length r) ≡ true → first_of record_length (figure_number r) ≡ 3
  high_word e =
      ⊎_elim
      (λ (z : first_of record_length (figure_number r) ≡ 0).
      let none_high : list_any (nat_le 1099511627776) (take record_length r) ≡ false =
      list_any_none (nat_le 1099511627776) (take record_length r)
      (All-from_get_or (λ x. nat_le 1099511627776 x ≡ false) (take record_length r) 0
      (λ i l.
      let h : i < record_length = omega (arith, length-take record_length r) in
      rw (get_or-take record_length r i 0 h) (lt-leb _ _ (figure_low i (each_none record_length (figure_number r) z i h))))) in
      absurd (cc))
      (λ (z : first_of record_length (figure_number r) ≡ 3). z)
      (figure_cases record_length)

  pub no_high_word : list_any (nat_le 1099511627776) (take record_length r) ≡ false → first_of record_length (figure_number r) ≡ 0
  no_high_word e =
      all_none record_length (figure_number r)
      (λ i h.
      ⊎_elim
      (λ (l : get_or r i 0 < 1099511627776). low_figure i l)
      (λ (l : 1099511627776 ≤ get_or r i 0).
      let k : i < length (take record_length r) = ⊎_elim (λ (k : i < length r). omega (arith, length-take record_length r)) (λ (k : length r ≤ i). absurd (omega (arith, get_d_past r i k))) (lt_or_le i (length r)) in
      let some_high : list_any (nat_le 1099511627776) (take record_length r) ≡ true =
      list_any_at (nat_le 1099511627776) (take record_length r) i 0 k (rw (get_or-take record_length r i 0 h) (le-leb _ _ l)) in
      absurd (cc))
      (lt_or_le (get_or r i 0) 1099511627776))

  pub roomy : (n : ℕ) → record_number n r ≡ 0 → length_number r ≡ 0 → Roomy r
  unfolding record_number length_number
  roomy n e k =
      let b = both _ (first_of record_length (figure_number r)) e in
      record { long = (off (length r) record_length 3 0 k).0; low = λ j h. figure_low j (each_none record_length (figure_number r) b.1 j h) }

  pub roomy_figures : figures_number r ≡ 0 → Roomy r
  unfolding figures_number
  roomy_figures e = let b = both (record_number 1001 r) (length_number r) e in roomy 1001 b.0 b.1

  -- before the contents of the graph are looked at
  pub roomy_early : (t : ℕ) → first (record_number 1000 r) (first t (length_number r)) ≡ 0 → Roomy r
  roomy_early t e = let b = both (record_number 1000 r) _ e in roomy 1000 b.0 (both t (length_number r) b.1).1

-- both signed numbers of the figures that were read
pub same_figures : (vs : List ℕ) {x y u v : ℤ} → x ≡ u → y ≡ v → ◌≡◌ {A = Answer} (record { number = 0; values = vs; signed = x ∷ y ∷ [] }) (record { number = 0; values = vs; signed = u ∷ v ∷ [] })
same_figures vs p q = λ i. record { number = 0; values = vs; signed = p i ∷ q i ∷ [] }

-- five words of a record, as a slice, and the figures that have these totals
pub word_of : (m n : ℕ) (r : List ℕ) (k : ℕ) → k < n → get_or (take n (drop m r)) k 0 ≡ get_or r (m + k) 0
word_of m n r k h = get_or-take n (drop m r) k 0 h ∙ get_or-drop m r k 0

pub figures_by : (n : ℕ) (s t : ℕ → ℕ) → ((k : ℕ) → k < 5 → s k ≡ t k) → figures n s ≡ figures n t
unfolding figures
figures_by n s t h =
    rw (h 0 (omega arith), h 1 (omega arith), h 2 (omega arith), h 3 (omega arith), h 4 (omega arith)) refl

pub figures_of : (n m a b d e f : ℕ) (t : ℕ → ℕ) → n ≡ m → a ≡ t 0 → b ≡ t 1 → d ≡ t 2 → e ≡ t 3 → f ≡ t 4 → figures n (λ k. get_or (a ∷ b ∷ d ∷ e ∷ f ∷ []) k 0) ≡ figures m t
unfolding figures
figures_of n m a b d e f t p q₀ q₁ q₂ q₃ q₄ = rw (p, q₀, q₁, q₂, q₃, q₄) refl
