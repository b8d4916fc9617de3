-- Words of bits written from the front, one bit after another; and a table whose bits are turned where the graph's places are. From the laws of
-- gathered bits and of places.
use Rattle.std.proofs.Common.{◌≡◌, ℕ, zero, suc, ◌+◌, ◌-◌, ◌*◌, ◌/◌, ◌%◌, ◌^◌, ◌<◌, ◌≤◌, min, max, ◌≢◌, List, length, get_or, set, sym, refl, ap, ◌∙◌, ⊎_elim, arith, length-set}
use Rattle.graph.specs.Finite.{sum}
use Rattle.graph.specs.Graph.{index, turn}
use Rattle.graph.specs.Inner.{begun, BitPut, BitsPut}
use Rattle.graph.specs.Literals.{bit_at, index_at, literal_at, literals, held, bit_of, words_for, strays}
use Rattle.graph.specs.Turned.{turned_table, up_to}
use Rattle.graph.proofs.Cases.{lt_or_le, eq_or_ne}
use Rattle.graph.proofs.Gathered.{length_begun, bit_now_lem, bit_before, bit_after, bit_later}
use Rattle.graph.proofs.Literals.{bit_at_le, index_at_le, literal_turned, length_literals, literals_at, literal_in, held_literals, held_at, bit_at_lem}
use Rattle.graph.proofs.Turn.{turn_zero}
use Rattle.graph.proofs.Turned.{turned_by_lem, up_to_in, up_to_past}

-- one bit more, whether its word is full or not
module _ (bs : List ℕ) (j got b : ℕ) (room : j < 64 * length bs) (fits : got < 18446744073709551616) (c : b ≤ 1) where
  pub put_by : (ds : List ℕ) → ds ≡ set bs (j / 64) (got / 2 ^ (64 - j % 64) + b * 2 ^ (j % 64)) → BitPut (begun j got bs) j b ds
  put_by ds e =
      rw e
      (record {
        same = length-set bs (j / 64) (got / 2 ^ (64 - j % 64) + b * 2 ^ (j % 64)) ∙ sym (length_begun bs got j);
        before = bit_before bs j got b room fits c;
        here = bit_now_lem bs j got b room fits c;
        after = bit_after bs j got b room fits c;
        later = bit_later bs j got b room fits c;
      })

-- none yet
pub bits_none : (f : ℕ → ℕ) (bs : List ℕ) → BitsPut f bs bs 0
bits_none f bs = record { same = refl; below = λ j h. absurd (omega arith); rest = λ j h k. absurd (omega arith); later = λ j h. refl }

pub bits_next : (f : ℕ → ℕ) (bs ds es : List ℕ) (n b : ℕ) → BitsPut f bs ds n → BitPut ds n b es → b ≡ f n → BitsPut f bs es (n + 1)
bits_next f bs ds es n b s p e =
    record {
      same = p.same ∙ s.same;
      below = λ j h. ⊎_elim (λ (q : j ≡ n). rw q (p.here ∙ e)) (λ (q : j ≢ n). p.before j (omega arith) ∙ s.below j (omega arith)) (eq_or_ne j n);
      rest = λ j h k. p.after j (omega arith) (omega arith);
      later = λ j h. p.later j (omega arith) ∙ s.later j (omega arith);
    }

sum_zero : (m : ℕ) (g : ℕ → ℕ) → sum m g ≡ 0 → (j : ℕ) → j < m → g j ≡ 0
unfolding sum
sum_zero zero g e j l = absurd (omega arith)
sum_zero (suc m) g e j l = ⊎_elim (λ (q : j ≡ m). rw q (omega arith)) (λ (q : j ≢ m). sum_zero m g (omega arith) j (omega arith)) (eq_or_ne j m)

-- the words of bits of a table of n literals, none set past these in their last word: each turned as t says
module _ (us bs ds : List ℕ) (n : ℕ) (f t : ℕ → ℕ) (h : n ≤ held (literals us bs)) (clean : strays n (literals us bs) ≡ 0) (put : BitsPut f bs ds n)
    (by : (j : ℕ) → j < n → f j ≡ (bit_at bs j + t j) % 2) (low : (j : ℕ) → j < n → 0 < t j → index (get_or (literals us bs) j 0) < 2147483647) where
  abbrev room : ℕ
  room = min (length us) (64 * length bs)

  same_room : min (length us) (64 * length ds) ≡ room
  same_room = rw put.same

  stray : (j : ℕ) → n ≤ j → j < 64 * words_for n → bit_at bs j ≡ 0
  unfolding strays
  stray j l k =
      let e : n + (j - n) ≡ j = omega arith in
      sym (bit_at_lem us bs j (omega (arith, held_literals us bs))) ∙ rw e at (sum_zero (64 * words_for n - n) (λ i. bit_of (get_or (literals us bs) (n + i) 0)) clean (j - n) (omega arith))

  bit_past : (j : ℕ) → n ≤ j → bit_at ds j ≡ bit_at bs j
  bit_past j l = ⊎_elim (λ (k : j < 64 * words_for n). put.rest j l k ∙ sym (stray j l k)) (put.later j) (lt_or_le j (64 * words_for n))

  place_same : (j : ℕ) → bit_at ds j ≡ bit_at bs j → literal_at us ds j ≡ literal_at us bs j
  unfolding literal_at
  place_same j e = rw (put.same, e)

  place_turned : (j : ℕ) → literal_at us ds j ≡ turn (up_to n t j) (literal_at us bs j)
  place_turned j =
      ⊎_elim
      (λ (l : j < n).
      let r : j < room = omega (arith, held_literals us bs) in
      rw (up_to_in n t j l, literal_in us ds j (rw same_room r), literal_in us bs j r, put.below j l, by j l)
      (literal_turned (index_at us j) (bit_at bs j) (index_at_le us j) (bit_at_le bs j) (t j) (λ p. rw (held_at us bs j (omega arith)) at (low j l p))))
      (λ (l : n ≤ j). rw (up_to_past n t j l, turn_zero) (place_same j (bit_past j l)))
      (lt_or_le j n)

  pub bits_turned : literals us ds ≡ turned_table (literals us bs) (up_to n t)
  bits_turned =
      turned_by_lem (literals us bs) (up_to n t) (literals us ds) (rw (length_literals us ds, length_literals us bs, put.same))
      (λ j l.
      let k : j < max (length us) (64 * length bs) = rw (length_literals us bs) at l in
      literals_at us ds j (rw put.same k) ∙ place_turned j ∙ ap (λ (x : ℕ). turn (up_to n t j) x) (sym (literals_at us bs j k)))
