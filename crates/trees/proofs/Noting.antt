-- A literal noted at the node that it names, and a table noted word by word. From the laws on stores and tests.
use mathlib.Core.Path.{◌≡◌, refl, ap, ◌∙◌}
use mathlib.Core.Bool.{Bool, true, false, cond}
use mathlib.Core.List.{List}
use mathlib.Core.Logic.{⊎_elim, ◌≢◌}
use Prim.Native.Nat.{ℕ, ◌+◌, ◌*◌, ◌/◌, ◌%◌, ◌≤◌, ◌<◌}
use native.Mathlib.Omega.{arith}
use native.Mathlib.Nat.{eq-or-lt_of_le}
use native.Mathlib.Numerals.{add-one}
use lib.Dec.{eqb}
use lib.ListN.{length, get_or}
use Rattle.graph.specs.Finite.{if_equal, sum}
use Rattle.moves.specs.Tree.{last}
use Rattle.graph.proofs.Cases.{eq_or_ne}
use Rattle.graph.proofs.Finite.{sum_le}
use Rattle.graph.proofs.Tests.{equal, unequal}
use Rattle.state.specs.State.{field}
use Rattle.trees.specs.Filling.{Stored, Counting, Noted, Noting, Notes, Gathered, GatheredTo, flags_of, only_place}

-- a literal that names no node
pub noted_none : (i n f x p : ℕ) (sc : List ℕ) → ((v : ℕ) → v < n → x / 2 ≢ i + 1 + v) → Noted i n f x p sc sc
noted_none i n f x p sc d =
    record {
      counted = λ v h. let q = unequal {A = ℕ} {k = 0} (x / 2) (i + 1 + v) 1 0 (d v h) refl in omega arith;
      odd = λ v h. let q = unequal {A = ℕ} {k = 0} (x / 2) (i + 1 + v) (x % 2) 0 (d v h) refl in omega arith;
      placed = λ v h. unequal (x / 2) (i + 1 + v) p (field sc v (f + 1)) (d v h) refl;
      kept = λ j a b d. refl;
    }

-- one that names node v
module _ (i n f x p m : ℕ) (sc sc₁ sc₂ sc₃ : List ℕ) (v a b : ℕ) (ct : Counting i n f sc m) (h : v < n) (e : x / 2 ≡ i + 1 + v)
    (ea : a ≡ field sc v f) (e₁ : Stored v f (a + 1) sc sc₁) (eb : b ≡ field sc₁ v 1) (e₂ : Stored v 1 (b + x % 2) sc₁ sc₂)
    (e₃ : Stored v (f + 1) p sc₂ sc₃) where
  old : (j : ℕ) → j ≢ 8 * v + f → j ≢ 8 * v + 1 → j ≢ 8 * v + (f + 1) → get_or sc₃ j 0 ≡ get_or sc j 0
  old j k l q = e₃.old j q ∙ e₂.old j l ∙ e₁.old j k

  new_count : field sc₃ v f ≡ field sc v f + 1
  new_count =
      e₃.old (8 * v + f) (omega arith) ∙ e₂.old (8 * v + f) (omega (arith, ct.above)) ∙
      e₁.new ∙ ap (λ z. z + 1) ea

  new_odd : field sc₃ v 1 ≡ field sc v 1 + x % 2
  new_odd =
      e₃.old (8 * v + 1) (omega (arith, ct.above)) ∙ e₂.new ∙
      ap (λ z. z + x % 2) (eb ∙ e₁.old (8 * v + 1) (omega (arith, ct.above)))

  new_place : field sc₃ v (f + 1) ≡ p
  new_place = e₃.new

  apart : (w k : ℕ) → w ≢ v → k < 8 → field sc₃ w k ≡ field sc w k
  apart w k d l = old (8 * w + k) (λ q. d (omega (arith, ct.fits))) (λ q. d (omega arith)) (λ q. d (omega (arith, ct.fits)))

  named : (w y z : ℕ) → w ≡ v → y ≡ if_equal (x / 2) (i + 1 + w) y z
  named w y z q = equal (x / 2) (i + 1 + w) y z (omega arith) refl

  unnamed : (w y z : ℕ) → w ≢ v → z ≡ if_equal (x / 2) (i + 1 + w) y z
  unnamed w y z d = unequal (x / 2) (i + 1 + w) y z (λ q. d (omega arith)) refl

  pub noted_at : Noted i n f x p sc sc₃
  noted_at =
      record {
        counted = λ w l.
            ⊎_elim
            (λ (q : w ≡ v). omega (arith, named w 1 0 q, rw (← q) at new_count))
            (λ (d : w ≢ v). omega (arith, unnamed w 1 0 d, apart w f d (omega (arith, ct.fits))))
            (eq_or_ne w v);
        odd = λ w l.
            ⊎_elim
            (λ (q : w ≡ v). omega (arith, named w (x % 2) 0 q, rw (← q) at new_odd))
            (λ (d : w ≢ v). omega (arith, unnamed w (x % 2) 0 d, apart w 1 d (omega arith)))
            (eq_or_ne w v);
        placed = λ w l.
            ⊎_elim
            (λ (q : w ≡ v). (rw (← q) at new_place) ∙ named w p _ q)
            (λ (d : w ≢ v). apart w (f + 1) d (omega (arith, ct.fits)) ∙ unnamed w p _ d)
            (eq_or_ne w v);
        kept = λ j k l q. old j (λ z. k (omega (arith, ct.fits))) (λ z. q (omega arith)) (λ z. l (omega (arith, ct.fits)));
      }

bits : (a b x : ℕ) → x ≤ 1 → if_equal a b x 0 ≤ 1
unfolding if_equal
bits a b x h = go (eqb a b)
  where
    go : (t : Bool) → cond t x 0 ≤ 1
    go true = h
    go false = omega arith

module _ (i n f : ℕ) (l sc : List ℕ) (ng : Noting i n f sc) where
  pub notes_zero : Notes i n f l sc sc 0
  unfolding sum last
  notes_zero =
      record {
        counted = λ v h. ng.none v h;
        odd = λ v h. omega arith;
        placed = λ v h. ng.no_place v h;
        kept = λ j a b d. refl;
      }

  module _ (sc' : List ℕ) (m : ℕ) (s : Notes i n f l sc sc' m) where
    pub notes_suc : (sc'' : List ℕ) (p : ℕ) → p ≡ m → Noted i n f (get_or l m 0) p sc' sc'' → Notes i n f l sc sc'' (m + 1)
    unfolding sum last if_equal
    notes_suc sc'' p e nt =
        rw (add-one m)
        (record {
          counted = λ v h. nt.counted v h ∙ ap (λ z. z + if_equal (get_or l m 0 / 2) (i + 1 + v) 1 0) (s.counted v h);
          odd = λ v h. omega (arith, nt.odd v h, s.odd v h);
          placed = λ v h. nt.placed v h ∙ rw (e, s.placed v h);
          kept = λ j a b d. nt.kept j a b d ∙ s.kept j a b d;
        })

    pub notes_low : m ≤ 300000 → length sc' ≡ length sc → Counting i n f sc' 999999
    notes_low k e =
        let ct = ng.counting in
        record {
          few_inputs = ct.few_inputs;
          few_nodes = ct.few_nodes;
          long = omega (arith, ct.long);
          above = ct.above;
          fits = ct.fits;
          low = λ v h. omega (arith, s.counted v h, sum_le (λ j. if_equal (get_or l j 0 / 2) (i + 1 + v) 1 0) (λ j. bits _ _ 1 (omega arith)) m);
          odd_low = λ v h. omega (arith, s.odd v h, ct.odd_low v h, sum_le (λ j. if_equal (get_or l j 0 / 2) (i + 1 + v) (get_or l j 0 % 2) 0) (λ j. bits _ _ (get_or l j 0 % 2) (omega arith)) m);
        }

-- fields 0, 3 and 2
pub gathered_at : (l : List ℕ) (v a b p q t : ℕ) (sc sc₁ sc₂ sc₃ : List ℕ) → a ≡ field sc v 4 → b ≡ field sc v 6 → p ≡ field sc v 5
    → Stored v 0 (a + b) sc sc₁ → q ≡ only_place a b p → Stored v 3 q sc₁ sc₂ → t ≡ flags_of l v → Stored v 2 t sc₂ sc₃ → Gathered l v sc sc₃
gathered_at l v a b p q t sc sc₁ sc₂ sc₃ ea eb ep e₁ eq e₂ et e₃ =
    record {
      all = e₃.old (8 * v + 0) (omega arith) ∙ e₂.old (8 * v + 0) (omega arith) ∙ e₁.new ∙ rw (ea, eb);
      only = e₃.old (8 * v + 3) (omega arith) ∙ e₂.new ∙ rw (eq, ea, eb, ep);
      flags = e₃.new ∙ et;
      kept = λ j k m l. e₃.old j m ∙ e₂.old j l ∙ e₁.old j k;
    }

module _ (l : List ℕ) (n : ℕ) (sc : List ℕ) where
  pub gathered_zero : GatheredTo l n sc sc 0
  gathered_zero = record { all = λ v h. absurd (omega arith); only = λ v h. absurd (omega arith); flags = λ v h. absurd (omega arith); kept = λ j a b c. refl }

  pub gathered_suc : (sc' sc'' : List ℕ) (m : ℕ) → GatheredTo l n sc sc' m → Gathered l m sc' sc'' → GatheredTo l n sc sc'' (m + 1)
  gathered_suc sc' sc'' m g s =
      let f : (k : ℕ) → 4 ≤ k → k < 8 → field sc' m k ≡ field sc m k = λ k a b. g.kept (8 * m + k) (omega arith) (omega arith) (omega arith) in
      let old : (v k : ℕ) → v < m → k < 8 → field sc'' v k ≡ field sc' v k = λ v k l b. s.kept (8 * v + k) (omega arith) (omega arith) (omega arith) in
      record {
        all = λ v h.
            ⊎_elim
            (λ (q : v ≡ m). rw q (s.all ∙ rw (f 4 (omega arith) (omega arith), f 6 (omega arith) (omega arith))))
            (λ (l : v < m). old v 0 l (omega arith) ∙ g.all v l)
            (eq-or-lt_of_le (omega arith));
        only = λ v h.
            ⊎_elim
            (λ (q : v ≡ m). rw q (s.only ∙ rw (f 4 (omega arith) (omega arith), f 5 (omega arith) (omega arith), f 6 (omega arith) (omega arith))))
            (λ (l : v < m). old v 3 l (omega arith) ∙ g.only v l)
            (eq-or-lt_of_le (omega arith));
        flags = λ v h. ⊎_elim (λ (q : v ≡ m). rw q s.flags) (λ (l : v < m). old v 2 l (omega arith) ∙ g.flags v l) (eq-or-lt_of_le (omega arith));
        kept = λ j a b c. s.kept j (λ q. a (omega arith)) (λ q. b (omega arith)) (λ q. c (omega arith)) ∙ g.kept j a b c;
      }
