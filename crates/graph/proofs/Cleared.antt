-- A place whose bit is cleared, and a table whose first words of bits are. From the laws of places.
use Rattle.std.proofs.Common.{◌≡◌, ℕ, ◌+◌, ◌*◌, ◌/◌, ◌<◌, ◌≤◌, min, ◌≢◌, List, length, get_or, sym, refl, ◌∙◌, ⊎_elim, arith}
use Rattle.graph.specs.Finite.{if_less, if_equal}
use Rattle.graph.specs.Graph.{mark}
use Rattle.graph.specs.Literals.{bit_at, index_at, literal_of, literal_at, bit_of, evened, cleared}
use Rattle.graph.proofs.Cases.{lt_or_le, eq_or_ne}
use Rattle.graph.proofs.Finite.{length_tab, get_d_tab}
use Rattle.graph.proofs.Literals.{bit_at_le, index_at_le, literal_cases, literal_low, literal_none, literal_mark, bit_mark, bit_other, literal_in, literal_past}
use Rattle.graph.proofs.Tests.{equal, unequal}

abbrev odd_mark_lem : ℕ
odd_mark_lem = literal_of mark 1

even_mark : (x : ℕ) → x ≡ mark → evened x ≡ mark
unfolding evened
even_mark x e = sym (equal x mark mark (if_equal x odd_mark_lem mark (x / 2 * 2)) e refl)

even_odd_mark : (x : ℕ) → x ≢ mark → x ≡ odd_mark_lem → evened x ≡ mark
unfolding evened
even_odd_mark x n e = sym (unequal x mark mark (if_equal x odd_mark_lem mark (x / 2 * 2)) n (equal x odd_mark_lem mark (x / 2 * 2) e refl))

even_other : (x : ℕ) → x ≢ mark → x ≢ odd_mark_lem → evened x ≡ x / 2 * 2
unfolding evened
even_other x n k = sym (unequal x mark mark (if_equal x odd_mark_lem mark (x / 2 * 2)) n (unequal x odd_mark_lem mark (x / 2 * 2) k refl))

-- the mark with a bit
odd_is : odd_mark_lem ≡ 12884901887
odd_is = literal_none mark 1 (omega arith) (omega arith)

even_literal : (u b : ℕ) → u ≤ mark → b ≤ 1 → evened (literal_of u b) ≡ literal_of u 0
even_literal u b w h =
    literal_cases u b {P = evened (literal_of u b) ≡ literal_of u 0}
    (λ l q. rw (q, literal_low u 0 l) (even_other (2 * u + b) (omega arith) (omega (arith, odd_is)) ∙ omega arith))
    (λ e q. rw (q, literal_mark u 0 (omega arith) (omega arith)) (even_mark mark refl))
    (λ l n q.
    rw q
    (⊎_elim
    (λ (e : u ≡ mark). rw (literal_mark u 0 l (omega arith)) (even_odd_mark (4294967296 + 2 * u + b) (omega arith) (omega (arith, odd_is))))
    (λ (k : u ≢ mark). rw (literal_none u 0 l (omega arith)) (even_other (4294967296 + 2 * u + b) (omega arith) (omega (arith, odd_is)) ∙ omega arith))
    (eq_or_ne u mark)))

even_past : (u b : ℕ) → b ≤ 1 → evened (1099511627776 + 2 * u + b) ≡ 1099511627776 + 2 * u + 0
even_past u b h = even_other (1099511627776 + 2 * u + b) (omega arith) (omega (arith, odd_is)) ∙ omega arith

pub even_bit : (x : ℕ) → bit_of (evened x) ≡ 0
even_bit x =
    ⊎_elim
    (λ (e : x ≡ mark). rw (even_mark x e) (bit_mark mark refl))
    (λ (n : x ≢ mark).
    ⊎_elim
    (λ (e : x ≡ odd_mark_lem). rw (even_odd_mark x n e) (bit_mark mark refl))
    (λ (k : x ≢ odd_mark_lem). rw (even_other x n k) (bit_other (x / 2 * 2) (omega arith) ∙ omega arith))
    (eq_or_ne x odd_mark_lem))
    (eq_or_ne x mark)

pub even_even : (x : ℕ) → evened (evened x) ≡ evened x
even_even x =
    ⊎_elim
    (λ (e : x ≡ mark). rw (even_mark x e) (even_mark mark refl))
    (λ (n : x ≢ mark).
    ⊎_elim
    (λ (e : x ≡ odd_mark_lem). rw (even_odd_mark x n e) (even_mark mark refl))
    (λ (k : x ≢ odd_mark_lem). rw (even_other x n k) (even_other (x / 2 * 2) (omega arith) (omega (arith, odd_is)) ∙ omega arith))
    (eq_or_ne x odd_mark_lem))
    (eq_or_ne x mark)

pub length_cleared : (m : ℕ) (l : List ℕ) → length (cleared m l) ≡ length l
unfolding cleared
length_cleared m l = length_tab _ _

pub cleared_at : (m : ℕ) (l : List ℕ) (j : ℕ) → j < length l → get_or (cleared m l) j 0 ≡ if_less j (64 * m) (evened (get_or l j 0)) (get_or l j 0)
unfolding cleared
cleared_at m l j h = get_d_tab _ _ j h

-- other words of bits beside the same indices: where the bit is cleared, and where it is the same
module _ (us bs ds : List ℕ) (same : length ds ≡ length bs) where
  abbrev room : ℕ
  room = min (length us) (64 * length bs)

  same_room : min (length us) (64 * length ds) ≡ room
  same_room = rw same

  pub place_even : (j : ℕ) → bit_at ds j ≡ 0 → literal_at us ds j ≡ evened (literal_at us bs j)
  place_even j z =
      ⊎_elim
      (λ (k : j < room). rw (literal_in us ds j (rw same_room k), literal_in us bs j k, z) (sym (even_literal (index_at us j) (bit_at bs j) (index_at_le us j) (bit_at_le bs j))))
      (λ (k : room ≤ j). rw (literal_past us ds j (rw same_room k), literal_past us bs j k, z) (sym (even_past (index_at us j) (bit_at bs j) (bit_at_le bs j))))
      (lt_or_le j room)

  pub place_same : (j : ℕ) → bit_at ds j ≡ bit_at bs j → literal_at us ds j ≡ literal_at us bs j
  unfolding literal_at
  place_same j z = rw (same, z)
