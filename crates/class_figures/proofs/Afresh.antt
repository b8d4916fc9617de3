-- From an empty record both figures always are those worked out afresh: over every list of graphs, by induction. From the laws on standing
-- records, low rows and answers.
use mathlib.Core.Path.{◌≡◌, refl, sym, ◌∙◌}
use mathlib.Core.List.{List, [], ◌∷◌}
use mathlib.Core.Logic.{⊎_elim, ◌≢◌}
use Prim.Native.Nat.{ℕ, zero, suc, ◌≤◌, ◌<◌}
use native.Mathlib.Omega.{arith}
use lib.ListN.{length, get_or}
use Rattle.graph.specs.Finite.{if_less, first_of}
use Rattle.graph.specs.Graph.{Graph}
use Rattle.graph.proofs.Cases.{lt_or_le, eq_or_ne}
use Rattle.graph.proofs.Tests.{less, no_less, equal, unequal, fault, none, all_none}
use Rattle.rounds.specs.Settle.{settle_call}
use Rattle.class_figures.specs.Call.{record_length, figure_number, record_number, length_number, class_number, entered, ClassOutcome, guarded_class, settled_in, class_call, figures_number}
use Rattle.class_figures.specs.Promises.{Handed, number_for, row_for, record_after, one_more, rows_after, Empty, AlwaysAfresh, TakesAThousand}
use Rattle.class_figures.proofs.Refusing.{low_figure}
use Rattle.class_figures.proofs.Answering.{class_number_lem}
use Rattle.class_figures.proofs.Standing.{Standing, standing_none, standing_more, standing_all, standing_latest, counts}
use Rattle.class_figures.proofs.Low.{LowRows, low_none, low_more, row_is_low, place_low}

-- what holds of the record and of the rows of the accepted graphs at each moment
pub record Good (rs : List (List ℕ)) (r : List ℕ) : Type 0 where
  pub stands : Standing rs r
  pub low : LowRows rs
  pub few : length rs ≤ 1000

book_kept : (m : ℕ) (g : Graph) (r : List ℕ) (o : ClassOutcome) → m ≢ 0 → (guarded_class m g r o).book ≡ r
unfolding guarded_class
book_kept zero g r o n = absurd (n refl)
book_kept (suc m) g r o n = refl

book_new : (m : ℕ) (g : Graph) (r : List ℕ) (o : ClassOutcome) → m ≡ 0 → (guarded_class m g r o).book ≡ o.book
unfolding guarded_class
book_new zero g r o e = refl
book_new (suc m) g r o e = absurd (omega arith)

module _ (rs : List (List ℕ)) (r : List ℕ) (q : Good rs r) where
  long_enough : length_number r ≡ 0
  unfolding length_number
  long_enough = sym (no_less (length r) record_length 4 0 q.stands.long refl)

  figures_low : first_of record_length (figure_number r) ≡ 0
  figures_low =
      all_none record_length (figure_number r)
      (λ j h. low_figure r j (rw (q.stands.holds j h) (place_low rs q.low q.few j h)))

  below : (n : ℕ) → length rs < n → record_number n r ≡ 0
  unfolding record_number
  below n h = sym (none _ (first_of record_length (figure_number r)) (sym (less (get_or r 0 0) n 0 3 (rw (counts rs r q.stands) h) refl)) (sym figures_low))

  full : 1000 ≤ length rs → record_number 1000 r ≡ 3
  unfolding record_number
  full h =
      let e : ◌≡◌ {A = ℕ} 3 (if_less (get_or r 0 0) 1000 0 3) = no_less (get_or r 0 0) 1000 0 3 (rw (counts rs r q.stands) h) refl in
      sym (fault _ (first_of record_length (figure_number r)) e (λ z. omega arith))

  readable : figures_number r ≡ 0
  unfolding figures_number
  readable = sym (none (record_number 1001 r) (length_number r) (below 1001 (omega (arith, q.few))) (sym long_enough))

  module _ (h : Handed) where
    abbrev number : ℕ
    number = class_number r h.graph h.locks h.scratch

    abbrev result : ClassOutcome
    result = settled_in r h.graph (settle_call h.graph h.locks h.scratch)

    abbrev book : List ℕ
    book = (class_call r h.graph h.locks h.scratch).book

    -- while there is room, settling's number decides; after the thousandth it is 3
    number_is : length rs < 1000 → number ≡ number_for h
    number_is l = class_number_lem r h.graph h.locks h.scratch (below 1000 l) long_enough

    number_full : 1000 ≤ length rs → number ≡ 3
    unfolding class_number
    number_full l = let e = full l in sym (fault (record_number 1000 r) _ (sym e) (λ z. omega arith))

    taken : length rs < 1000 → number_for h ≡ 0 → (book ≡ entered (row_for h) r) × (one_more rs h ≡ row_for h ∷ rs)
    unfolding class_call one_more
    taken l z = (
      book_new number h.graph r result (number_is l ∙ z),
      sym (less (length rs) 1000 _ _ l (equal (number_for h) 0 _ _ z refl)),
    )

    refused_one : number ≢ 0 → book ≡ r
    unfolding class_call
    refused_one d = book_kept number h.graph r result d

    left_out : length rs < 1000 → number_for h ≢ 0 → (book ≡ r) × (one_more rs h ≡ rs)
    unfolding one_more
    left_out l d = (
      refused_one (λ z. d (sym (number_is l) ∙ z)),
      sym (less (length rs) 1000 _ _ l (unequal (number_for h) 0 _ _ d refl)),
    )

    over : 1000 ≤ length rs → (book ≡ r) × (one_more rs h ≡ rs)
    unfolding one_more
    over l = (
      refused_one (λ z. let e = number_full l in omega arith),
      sym (no_less (length rs) 1000 _ _ l refl),
    )

    one_good : Good (one_more rs h) book
    one_good =
        ⊎_elim
        (λ (l : length rs < 1000).
        ⊎_elim
        (λ (z : number_for h ≡ 0).
        let t = taken l z in
        rw (t.0, t.1)
        (record {
          stands = standing_more (row_for h) rs r q.stands;
          low = low_more (row_for h) rs (row_is_low h.graph h.locks h.scratch z) q.low;
          few = omega arith;
        }))
        (λ (d : number_for h ≢ 0). let t = left_out l d in rw (t.0, t.1) q)
        (eq_or_ne (number_for h) 0))
        (λ (l : 1000 ≤ length rs). let t = over l in rw (t.0, t.1) q)
        (lt_or_le (length rs) 1000)

all_good : (rs : List (List ℕ)) (r : List ℕ) (handed : List Handed) → Good rs r → Good (rows_after rs handed) (record_after r handed)
unfolding rows_after record_after
all_good rs r [] q = q
all_good rs r (h ∷ later) q =
    all_good (one_more rs h) (class_call r h.graph h.locks h.scratch).book later (one_good rs r q h)

module _ (r : List ℕ) (handed : List Handed) (e : Empty r) where
  after_good : Good (rows_after [] handed) (record_after r handed)
  after_good = all_good [] r handed (record { stands = standing_none r e; low = low_none; few = omega arith })

  pub always_afresh : AlwaysAfresh r handed
  always_afresh =
      record {
        all = standing_all (rows_after [] handed) (record_after r handed) after_good.stands;
        latest = standing_latest (rows_after [] handed) (record_after r handed) after_good.stands;
      }

  pub takes_a_thousand : (h : Handed) → TakesAThousand r handed h
  takes_a_thousand h =
      record {
        readable = readable (rows_after [] handed) (record_after r handed) after_good;
        few = after_good.few;
        room = number_is (rows_after [] handed) (record_after r handed) after_good h;
        full = λ e. number_full (rows_after [] handed) (record_after r handed) after_good h (omega arith);
      }
