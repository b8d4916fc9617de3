-- What the stores of a step make of a state: one kept bit and one count, or one count and one pending bit. From the laws of
-- states in order.
use mathlib.Core.Path.{◌≡◌, refl, sym, ap, ◌∙◌}
use mathlib.Core.Bool.{true, false, cond}
use mathlib.Core.List.{List}
use mathlib.Core.Logic.{◌⊎◌, inl, inr, ⊎_elim, ◌≢◌}
use Prim.Native.Nat.{ℕ, ◌+◌, ◌-◌, ◌*◌, ◌/◌, ◌%◌, ◌≤◌, ◌<◌}
use native.Mathlib.Omega.{arith}
use borrow.Author.Tests.{eq-eqb, ne_eqb}
use lib.Dec.{eqb}
use lib.Seq.{get_or-set_same, get_or-set_other}
use lib.ListN.{length, set, length-set}
use Rattle.graph.specs.Count.{named}
use Rattle.graph.specs.Graph.{Graph, node, word, is_edge}
use Rattle.graph.specs.Literals.{bit}
use Rattle.graph.specs.Turned.{never, only}
use Rattle.graph.proofs.Alike.{alike_named, alike_edge}
use Rattle.graph.proofs.Bits.{bit_le}
use Rattle.graph.proofs.Cases.{eq_or_ne}
use Rattle.graph.proofs.Turned.{by_never, only_zero, only_at, only_off}
use Rattle.moves.proofs.Count.{clash}
use Rattle.state.specs.State.{field, bit_in, stands, Ordered}
use Rattle.state.specs.Step.{word_turned, readers_turned, TreesKept, Became}
use Rattle.state.proofs.Turned.{readers_turned_zero}
use Rattle.state.proofs.Stands.{kept_at_lem, stands_alike, stands_admitted, BitTurned, stands_word_turned, Flipped, stands_readers_turned}
use Rattle.state.proofs.Order.{ordered_word, ordered_readers, shown_word}

-- one field stored
module _ (sc : List ℕ) (w k x : ℕ) where
  pub field_stored : 8 * w + k < length sc → field (set sc (8 * w + k) x) w k ≡ x
  field_stored h = get_or-set_same sc (8 * w + k) x 0 h

  pub field_kept : (v f : ℕ) → f < 8 → k < 8 → (v ≢ w) ⊎ (f ≢ k) → field (set sc (8 * w + k) x) v f ≡ field sc v f
  field_kept v f p q d = get_or-set_other sc (8 * w + k) (8 * v + f) x 0 (λ z. ⊎_elim (λ (e : v ≢ w). e (omega arith)) (λ (e : f ≢ k). e (omega arith)) d)

pub kept_same : (sc : List ℕ) → TreesKept sc sc
kept_same sc = record { long = refl; others = λ v f p q r. refl }

pub kept_then : (a b c : List ℕ) → TreesKept a b → TreesKept b c → TreesKept a c
kept_then a b c p q = record { long = q.long ∙ p.long; others = λ v f x y z. q.others v f x y z ∙ p.others v f x y z }

kept_stored : (sc : List ℕ) (w k x : ℕ) → (k ≡ 1) ⊎ (k ≡ 2) → TreesKept sc (set sc (8 * w + k) x)
kept_stored sc w k x d =
    record {
      long = length-set sc (8 * w + k) x;
      others = λ v f p q r.
          field_kept sc w k x v f p (⊎_elim (λ (e : k ≡ 1). omega arith) (λ (e : k ≡ 2). omega arith) d)
          (inr (⊎_elim (λ (e : k ≡ 1) (z : f ≡ k). q (z ∙ e)) (λ (e : k ≡ 2) (z : f ≡ k). r (z ∙ e)) d));
    }

-- field 2 of node v stored, with bit k turned
module _ (sc sc' : List ℕ) (v k : ℕ) (bits : (m : ℕ) → bit_in sc' v m ≡ (bit_in sc v m + only k 1 m) % 2) (others : (w m : ℕ) → w ≢ v → bit_in sc' w m ≡ bit_in sc w m) where
  off : (m : ℕ) → m ≢ k → bit_in sc' v m ≡ bit_in sc v m
  off m n = bits m ∙ rw (only_off k 1 m n) (omega (arith, bit_le m (field sc v 2)))

  on : (m : ℕ) → m ≡ k → bit_in sc' v m ≡ (bit_in sc v m + 1) % 2
  on m e = bits m ∙ rw (e, only_at k 1)

  -- the kept bit of a word
  pub bit_turned : (i : ℕ) → i < 3 → k ≡ 1 + i → BitTurned sc sc' (3 * v + i) 1
  bit_turned i h e =
      record {
        here = rw (kept_at_lem sc' v i h, kept_at_lem sc v i h) (on (1 + i) (sym e));
        elsewhere = λ j n.
            ⊎_elim
            (λ (q : j / 3 ≡ v). rw q (off (1 + j % 3) (λ z. n (omega arith))))
            (λ (q : j / 3 ≢ v). others (j / 3) (1 + j % 3) q)
            (eq_or_ne (j / 3) v);
        pending = λ x. ⊎_elim (λ (q : x ≡ v). rw q (off 0 (omega arith))) (λ (q : x ≢ v). others x 0 q) (eq_or_ne x v);
      }

  -- the pending bit
  pub pending_turned : k ≡ 0 → Flipped sc sc' v 1
  pending_turned e =
      record {
        here = on 0 (sym e);
        elsewhere = λ x q. others x 0 q;
        words = λ j.
            ⊎_elim
            (λ (q : j / 3 ≡ v). rw q (off (1 + j % 3) (omega arith)))
            (λ (q : j / 3 ≢ v). others (j / 3) (1 + j % 3) q)
            (eq_or_ne (j / 3) v);
      }

module _ (g : Graph) (sc : List ℕ) (o : Ordered g sc) where
  pub names_low : (j : ℕ) → j < 3 * g.N → is_edge g j ≡ true → word g j / 2 < node g g.N
  names_low j l e = omega (arith, o.admitted.below j l e)

  pub word_still : (j : ℕ) → Became sc g sc (word_turned (stands g sc) j 0)
  word_still j = record { ordered = o; stands_for = sym (by_never (stands g sc) (only j 0) never (only_zero j) (λ i. refl)); kept = kept_same sc }

  pub readers_still : (u : ℕ) → Became sc g sc (readers_turned (stands g sc) u 0)
  readers_still u = record { ordered = o; stands_for = sym (readers_turned_zero (stands g sc) u); kept = kept_same sc }

  -- word i + 1 of node v turned: its bit now is b before, and y is field 2 afterwards
  module _ (v i : ℕ) (h : v < g.N) (t : i < 3) (e : is_edge g (3 * v + i) ≡ true) (y : ℕ) (bits : (m : ℕ) → bit m y ≡ (bit_in sc v m + only (1 + i) 1 m) % 2) where
    abbrev j : ℕ
    j = 3 * v + i

    abbrev b : ℕ
    b = word (stands g sc) j % 2

    abbrev flagged : List ℕ
    flagged = set sc (8 * v + 2) y

    named_is : (w : ℕ) → named g (node g w) j ≡ eqb (word g j / 2) (node g w)
    unfolding named
    named_is w = rw e

    edge : {A : Type 0} → is_edge g j ≡ false → A
    edge z = absurd (clash e z)

    pub bit_counted : (w : ℕ) → w < g.N → word g j / 2 ≡ node g w → b ≤ field sc w 1
    bit_counted w p q =
        let a = stands_alike g sc o.admitted in
        let n : named (stands g sc) (node g w) j ≡ true = alike_named g (stands g sc) a (node g w) j ∙ named_is w ∙ eq-eqb _ _ q in
        let s = shown_word (stands g sc) (stands_admitted g sc o.admitted) j 1 (rw a.same_N (omega arith)) (λ z. edge (sym (alike_edge g (stands g sc) a j) ∙ z)) (node g w) in
        omega (arith, rw n at s, o.odd w p)

    flagged_kept : TreesKept sc flagged
    flagged_kept = kept_stored sc v 2 y (inr refl)

    -- bits afterwards, whatever else than field 2 is stored
    turned_by_lem : (sc' : List ℕ) → ((w : ℕ) → field sc' w 2 ≡ field flagged w 2) → BitTurned sc sc' j 1
    turned_by_lem sc' same =
        bit_turned sc sc' v (1 + i)
        (λ m. ap (bit m) (same v ∙ field_stored sc v 2 y (omega (arith, o.long))) ∙ bits m)
        (λ w m n. ap (bit m) (same w ∙ field_kept sc v 2 y w 2 (omega arith) (omega arith) (inl n)))
        i t refl

    -- it names no node: no count changes
    pub word_low : word g j / 2 ≤ g.I → Became sc g flagged (word_turned (stands g sc) j 1)
    word_low l =
        let z = turned_by_lem flagged (λ w. refl) in
        record {
          ordered =
              ordered_word g sc o j (omega arith) e flagged flagged_kept z
              (λ w p. rw (named_is w, ne_eqb (word g j / 2) (node g w) (omega arith), field_kept sc v 2 y w 1 (omega arith) (omega arith) (inr (omega arith))));
          stands_for = stands_word_turned g j 1 (omega arith) e sc flagged z;
          kept = flagged_kept;
        }

    -- it names node w: that node's count changes by one
    module _ (w x : ℕ) (p : w < g.N) (q : word g j / 2 ≡ node g w) (c : x + b ≡ field sc w 1 + (1 - b)) where
      abbrev after : List ℕ
      after = set flagged (8 * w + 1) x

      after_kept : TreesKept sc after
      after_kept = kept_then sc flagged after flagged_kept (kept_stored flagged w 1 x (inl refl))

      counts : (u : ℕ) → u < g.N → field after u 1 + cond (named g (node g u) j) b 0 ≡ field sc u 1 + cond (named g (node g u) j) ((word (stands g sc) j + 1) % 2) 0
      counts u s =
          rw (named_is u)
          (⊎_elim
          (λ (z : u ≡ w). rw (z, eq-eqb (word g j / 2) (node g w) q, field_stored flagged w 1 x (rw (length-set sc (8 * v + 2) y) (omega (arith, o.long)))) (omega arith))
          (λ (z : u ≢ w).
          rw (
            ne_eqb (word g j / 2) (node g u) (λ y. z (omega arith)),
            field_kept flagged w 1 x u 1 (omega arith) (omega arith) (inl z),
            field_kept sc v 2 y u 1 (omega arith) (omega arith) (inr (omega arith)),
          ))
          (eq_or_ne u w))

      pub word_high : Became sc g after (word_turned (stands g sc) j 1)
      word_high =
          let z = turned_by_lem after (λ u. field_kept flagged w 1 x u 2 (omega arith) (omega arith) (inr (omega arith))) in
          record {
            ordered = ordered_word g sc o j (omega arith) e after after_kept z counts;
            stands_for = stands_word_turned g j 1 (omega arith) e sc after z;
            kept = after_kept;
          }

  -- all readers of node v turned: the count becomes that of the others, and y, field 2 afterwards, has the pending bit turned
  module _ (v x y : ℕ) (l : v < g.N) (c : x + field sc v 1 ≡ field sc v 0) (bits : (m : ℕ) → bit m y ≡ (bit_in sc v m + only 0 1 m) % 2) where
    abbrev first : List ℕ
    first = set sc (8 * v + 1) x

    abbrev flipped : List ℕ
    flipped = set first (8 * v + 2) y

    flipped_kept : TreesKept sc flipped
    flipped_kept = kept_then sc first flipped (kept_stored sc v 1 x (inl refl)) (kept_stored first v 2 y (inr refl))

    here_flags : field flipped v 2 ≡ y
    here_flags = field_stored first v 2 y (rw (length-set sc (8 * v + 1) x) (omega (arith, o.long)))

    here_count : field flipped v 1 ≡ x
    here_count = field_kept first v 2 y v 1 (omega arith) (omega arith) (inr (omega arith)) ∙ field_stored sc v 1 x (omega (arith, o.long))

    elsewhere : (w f : ℕ) → f < 8 → w ≢ v → field flipped w f ≡ field sc w f
    elsewhere w f p e = field_kept first v 2 y w f p (omega arith) (inl e) ∙ field_kept sc v 1 x w f p (omega arith) (inl e)

    flip : Flipped sc flipped v 1
    flip = pending_turned sc flipped v 0 (λ m. ap (bit m) here_flags ∙ bits m) (λ w m n. ap (bit m) (elsewhere w 2 (omega arith) n)) refl

    pub readers_flipped : Became sc g flipped (readers_turned (stands g sc) (node g v) 1)
    readers_flipped =
        record {
          ordered = ordered_readers g sc o v l flipped flipped_kept flip (omega (arith, here_count, c)) (λ w e. elsewhere w 1 (omega arith) e);
          stands_for = stands_readers_turned g o.admitted v 1 l sc flipped flip;
          kept = flipped_kept;
        }
