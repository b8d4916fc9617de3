-- A lent table with one bit turned, and with one literal stored. From the laws of its places and of turned tables.
use Rattle.std.proofs.Common.{◌≡◌, ℕ, zero, suc, ◌+◌, ◌*◌, ◌/◌, ◌%◌, ◌<◌, ◌≤◌, min, max, ◌≢◌, List, [], ◌∷◌, length, get_or, set, sym, refl, ap, ◌∙◌, ⊎_elim, arith, length-set, get_or-set_other, get_or-set_same, ext_get_or}
use Rattle.graph.specs.Graph.{mark, index, turn}
use Rattle.graph.specs.Literals.{bit, bit_at, index_at, literal_of, literal_at, literals, held}
use Rattle.graph.specs.Inner.{Turnable, three_turns}
use Rattle.graph.specs.Turned.{turned_table, only}
use Rattle.graph.proofs.Bits.{bit_le}
use Rattle.graph.proofs.Cases.{lt_or_le, eq_or_ne}
use Rattle.graph.proofs.Literals.{bit_at_le, index_at_le, literal_turned, length_literals, literals_at, literal_in, literal_past, held_le, held_literals, held_bit}
use Rattle.graph.proofs.Turn.{turn_zero}
use Rattle.graph.proofs.Turned.{only_at, only_off, turned_at, turned_by_lem, turned_held, turned_turned}

module _ (bs : List ℕ) where
  pub bits_set : (j t w : ℕ) → j < 64 * length bs → ((m : ℕ) → bit m w ≡ (bit m (get_or bs (j / 64) 0) + only (j % 64) t m) % 2)
      → (i : ℕ) → bit_at (set bs (j / 64) w) i ≡ (bit_at bs i + only j t i) % 2
  unfolding bit_at
  bits_set j t w h f i =
      ⊎_elim
      (λ (e : i / 64 ≡ j / 64).
      rw (e, get_or-set_same bs (j / 64) w 0 (omega arith), f (i % 64))
      (⊎_elim
      (λ (q : i ≡ j). rw (q, only_at j t, only_at (j % 64) t))
      (λ (q : i ≢ j). rw (only_off j t i q, only_off (j % 64) t (i % 64) (λ z. q (omega arith))))
      (eq_or_ne i j)))
      (λ (n : i / 64 ≢ j / 64).
      rw (get_or-set_other bs (j / 64) (i / 64) w 0 n, only_off j t i (λ z. n (ap (λ (x : ℕ). x / 64) z)))
      (omega (arith, bit_le (i % 64) (get_or bs (i / 64) 0))))
      (eq_or_ne (i / 64) (j / 64))

-- one bit changed t times: one literal turned t times
module _ (us bs : List ℕ) (j t w : ℕ) (h : j < held (literals us bs)) (low : 0 < t → index (get_or (literals us bs) j 0) < 2147483647)
    (f : (m : ℕ) → bit m w ≡ (bit m (get_or bs (j / 64) 0) + only (j % 64) t m) % 2) where
  abbrev ds : List ℕ
  ds = set bs (j / 64) w

  same_places : length (literals us ds) ≡ length (literals us bs)
  same_places = rw (length_literals us ds, length_literals us bs, length-set bs (j / 64) w)

  same_room : min (length us) (64 * length ds) ≡ min (length us) (64 * length bs)
  same_room = rw (length-set bs (j / 64) w)

  bit_now_lem : (i : ℕ) → bit_at ds i ≡ (bit_at bs i + only j t i) % 2
  bit_now_lem = bits_set bs j t w (held_bit us bs j h) f

  low_at : (i : ℕ) → i < min (length us) (64 * length bs) → 0 < only j t i → index (literal_of (index_at us i) (bit_at bs i)) < 2147483647
  low_at i a p =
      ⊎_elim
      (λ (e : i ≡ j). rw (← literal_in us bs i a, ← literals_at us bs i (omega arith), e) (low (rw (e, only_at j t) at p)))
      (λ (n : i ≢ j). absurd (omega (arith, only_off j t i n)))
      (eq_or_ne i j)

  place_turned : (i : ℕ) → literal_at us ds i ≡ turn (only j t i) (literal_at us bs i)
  place_turned i =
      ⊎_elim
      (λ (a : i < min (length us) (64 * length bs)).
      rw (literal_in us ds i (rw same_room a), literal_in us bs i a, bit_now_lem i) (literal_turned (index_at us i) (bit_at bs i) (index_at_le us i) (bit_at_le bs i) (only j t i) (low_at i a)))
      (λ (a : min (length us) (64 * length bs) ≤ i).
      let n : i ≢ j = λ e. omega (arith, held_literals us bs) in
      rw (literal_past us ds i (rw same_room a), literal_past us bs i a, bit_now_lem i, only_off j t i n, turn_zero) (omega (arith, bit_at_le bs i)))
      (lt_or_le i (min (length us) (64 * length bs)))

  pub literals_turned : literals us ds ≡ turned_table (literals us bs) (only j t)
  literals_turned =
      turned_by_lem (literals us bs) (only j t) (literals us ds) same_places
      (λ i l.
      literals_at us ds i (omega (arith, length_literals us ds, same_places))
      ∙ place_turned i
      ∙ ap (λ (x : ℕ). turn (only j t i) x) (sym (literals_at us bs i (omega (arith, length_literals us bs)))))

-- another word can be turned after one as before it
pub still_turnable : (l m : List ℕ) (j t i r : ℕ) → m ≡ turned_table l (only j t) → i ≢ j → Turnable l i r → Turnable m i r
still_turnable l m j t i r e n h =
    let k : get_or m i 0 ≡ get_or l i 0 = ap (λ (y : List ℕ). get_or y i 0) e ∙ turned_at l (only j t) i (omega (arith, h.there, held_le l)) ∙ rw (only_off j t i n) (turn_zero (get_or l i 0)) in
    record { few = h.few; there = omega (arith, h.there, ap held e ∙ turned_held l (only j t)); low = λ p. rw k (h.low p) }

-- three words turned one after the other
pub three_turned : (l m k o : List ℕ) (j x y z : ℕ) → m ≡ turned_table l (only j x) → k ≡ turned_table m (only (j + 1) y) → o ≡ turned_table k (only (j + 2) z) → o ≡ turned_table l (three_turns j x y z)
unfolding three_turns
three_turned l m k o j x y z p q r =
    r
    ∙ ap (λ (w : List ℕ). turned_table w (only (j + 2) z)) (q ∙ ap (λ (w : List ℕ). turned_table w (only (j + 1) y)) p ∙ turned_turned l (only j x) (only (j + 1) y))
    ∙ turned_turned l (λ i. only j x i + only (j + 1) y i) (only (j + 2) z)

set_set : (l : List ℕ) (k a b : ℕ) → set (set l k a) k b ≡ set l k b
set_set [] k a b = refl
set_set (x ∷ l) zero a b = refl
set_set (x ∷ l) (suc k) a b = ap (λ (y : List ℕ). x ∷ y) (set_set l k a b)

-- the same where their bits lie in one word, which is stored once
module _ (us bs : List ℕ) (j x y z w₁ w₂ w₃ : ℕ) (s : j % 64 < 62)
    (h₁ : Turnable (literals us bs) j x) (h₂ : Turnable (literals us bs) (j + 1) y) (h₃ : Turnable (literals us bs) (j + 2) z)
    (f₁ : (m : ℕ) → bit m w₁ ≡ (bit m (get_or bs (j / 64) 0) + only (j % 64) x m) % 2)
    (f₂ : (m : ℕ) → bit m w₂ ≡ (bit m w₁ + only (j % 64 + 1) y m) % 2)
    (f₃ : (m : ℕ) → bit m w₃ ≡ (bit m w₂ + only (j % 64 + 2) z m) % 2) where
  abbrev q : ℕ
  q = j / 64

  here : q < length bs
  here = omega (arith, held_bit us bs j h₁.there)

  abbrev bs₁ : List ℕ
  bs₁ = set bs q w₁

  abbrev bs₂ : List ℕ
  bs₂ = set bs₁ q w₂

  first : literals us bs₁ ≡ turned_table (literals us bs) (only j x)
  first = literals_turned us bs j x w₁ h₁.there h₁.low f₁

  second : literals us bs₂ ≡ turned_table (literals us bs₁) (only (j + 1) y)
  second =
      let t = still_turnable (literals us bs) (literals us bs₁) j x (j + 1) y first (λ e. omega arith) h₂ in
      let a : (j + 1) / 64 ≡ q = omega arith in
      let b : (j + 1) % 64 ≡ j % 64 + 1 = omega arith in
      let r = literals_turned us bs₁ (j + 1) y w₂ t.there t.low (λ m. rw (a, b, get_or-set_same bs q w₁ 0 here) (f₂ m)) in
      rw a at r

  third : literals us (set bs₂ q w₃) ≡ turned_table (literals us bs₂) (only (j + 2) z)
  third =
      let t = still_turnable (literals us bs₁) (literals us bs₂) (j + 1) y (j + 2) z second (λ e. omega arith) (still_turnable (literals us bs) (literals us bs₁) j x (j + 2) z first (λ e. omega arith) h₃) in
      let a : (j + 2) / 64 ≡ q = omega arith in
      let b : (j + 2) % 64 ≡ j % 64 + 2 = omega arith in
      let r = literals_turned us bs₂ (j + 2) z w₃ t.there t.low (λ m. rw (a, b, get_or-set_same bs₁ q w₂ 0 (rw (length-set bs q w₁) here)) (f₃ m)) in
      rw a at r

  pub three_stored : literals us (set bs q w₃) ≡ turned_table (literals us bs) (three_turns j x y z)
  three_stored =
      let e : set bs₂ q w₃ ≡ set bs q w₃ = set_set bs₁ q w₂ w₃ ∙ set_set bs q w₁ w₃ in
      ap (literals us) (sym e) ∙ three_turned (literals us bs) (literals us bs₁) (literals us bs₂) (literals us (set bs₂ q w₃)) j x y z first second third

-- one word stored: its index (or the mark) in one list, its bit in the other
module _ (us bs : List ℕ) (j u b x w : ℕ) (h : j < length us) (k : j < 64 * length bs) (v : u ≤ mark) (c : b ≤ 1) (e : literal_of u b ≡ x)
    (f : (m : ℕ) → bit m w ≡ (bit m (get_or bs (j / 64) 0) + only (j % 64) (bit_at bs j + b) m) % 2) where
  abbrev vs : List ℕ
  vs = set us j u

  abbrev cs : List ℕ
  cs = set bs (j / 64) w

  store_places : length (literals vs cs) ≡ length (literals us bs)
  store_places = rw (length_literals vs cs, length_literals us bs, length-set bs (j / 64) w, length-set us j u)

  bit_stored : (i : ℕ) → bit_at cs i ≡ (bit_at bs i + only j (bit_at bs j + b) i) % 2
  bit_stored = bits_set bs j (bit_at bs j + b) w k f

  bit_here : bit_at cs j ≡ b
  bit_here = rw (bit_stored j, only_at j (bit_at bs j + b)) (omega (arith, bit_at_le bs j))

  bit_kept : (i : ℕ) → i ≢ j → bit_at cs i ≡ bit_at bs i
  bit_kept i q = rw (bit_stored i, only_off j (bit_at bs j + b) i q) (omega (arith, bit_at_le bs i))

  index_here : index_at vs j ≡ u
  unfolding index_at
  index_here = rw (get_or-set_same us j u 0 h) (omega arith)

  index_kept : (i : ℕ) → i ≢ j → index_at vs i ≡ index_at us i
  unfolding index_at
  index_kept i q = rw (get_or-set_other us j i u 0 q)

  place_kept : (i : ℕ) → i ≢ j → literal_at vs cs i ≡ literal_at us bs i
  unfolding literal_at
  place_kept i q = rw (length-set us j u, length-set bs (j / 64) w, bit_kept i q, index_kept i q)

  store_at : (i : ℕ) → i < max (length us) (64 * length bs) → literal_at vs cs i ≡ get_or (set (literals us bs) j x) i 0
  store_at i l =
      ⊎_elim
      (λ (q : i ≡ j).
      rw (
        q,
        literal_in vs cs j (rw (length-set us j u, length-set bs (j / 64) w) (omega arith)),
        bit_here,
        index_here,
        get_or-set_same (literals us bs) j x 0 (rw (length_literals us bs) (omega arith)),
      )
      e)
      (λ (q : i ≢ j). rw (place_kept i q, get_or-set_other (literals us bs) j i x 0 q) (sym (literals_at us bs i l)))
      (eq_or_ne i j)

  pub literals_stored : literals vs cs ≡ set (literals us bs) j x
  literals_stored =
      ext_get_or 0 _ _ (store_places ∙ sym (length-set (literals us bs) j x))
      (λ i l. literals_at vs cs i (omega (arith, length_literals vs cs)) ∙ store_at i (omega (arith, store_places, length_literals us bs)))

-- turned no times
pub unturned : (l : List ℕ) (j t : ℕ) → t ≡ 0 → l ≡ turned_table l (only j t)
unturned l j t e =
    turned_by_lem l (only j t) l refl
    (λ i h.
    ⊎_elim
    (λ (q : i ≡ j). rw (q, only_at j t, e) (sym (turn_zero (get_or l j 0))))
    (λ (q : i ≢ j). rw (only_off j t i q) (sym (turn_zero (get_or l i 0))))
    (eq_or_ne i j))
