-- A place of a lent table: its literal and its bit; how many literals a table holds; bits past its places. From the laws of bits.
use Rattle.std.proofs.Common.{◌≡◌, ℕ, zero, suc, ◌+◌, ◌-◌, ◌*◌, ◌/◌, ◌%◌, ◌<◌, ◌≤◌, min, max, Bool, true, false, cond, eqb, ltb, ◌≢◌, List, length, get_or, sym, refl, ap, ◌∙◌, ⊎_elim, arith, le-ltb, lt-ltb, eq-eqb, ne_eqb}
use Rattle.graph.specs.Finite.{sum, count, if_equal}
use Rattle.graph.specs.Graph.{mark, index, turn}
use Rattle.graph.specs.Inner.{Names, IsWord}
use Rattle.graph.specs.Literals.{bit_at, index_at, literal_of, literal_at, literals, held, bit_of, words_for, strays}
use Rattle.graph.proofs.Bits.{bit_le}
use Rattle.graph.proofs.Cases.{lt_or_le, eq_or_ne, cond_le}
use Rattle.graph.proofs.Finite.{length_tab, get_d_tab, sum_same, sum_le}
use Rattle.graph.proofs.Tests.{less, no_less, equal, unequal}
use Rattle.graph.proofs.Turn.{turn_zero}

pub index_at_le : (us : List ℕ) (j : ℕ) → index_at us j ≤ mark
unfolding index_at
index_at_le us j = omega arith

-- what a slice of words of 32 bits has at a place
pub index_is : (us : List ℕ) (j : ℕ) → get_or us j 0 < 4294967296 → get_or us j 0 ≡ index_at us j
unfolding index_at
index_is us j h = omega arith

pub bit_at_le : (bs : List ℕ) (j : ℕ) → bit_at bs j ≤ 1
unfolding bit_at
bit_at_le bs j = bit_le _ _

-- what an index and a bit say, in its three cases
module _ (u b : ℕ) where
  abbrev none : ℕ
  none = 4294967296 + 2 * u + b

  abbrev high : ℕ
  high = if_equal (2 * u + b) (2 * mark) mark none

  pub literal_low : u < 2147483647 → literal_of u b ≡ 2 * u + b
  unfolding literal_of
  literal_low h = sym (less u 2147483647 (2 * u + b) high h refl)

  pub literal_mark : 2147483647 ≤ u → 2 * u + b ≡ 2 * mark → literal_of u b ≡ mark
  unfolding literal_of
  literal_mark l e = sym (no_less u 2147483647 (2 * u + b) high l (equal (2 * u + b) (2 * mark) mark none e refl))

  pub literal_none : 2147483647 ≤ u → 2 * u + b ≢ 2 * mark → literal_of u b ≡ none
  unfolding literal_of
  literal_none h n = sym (no_less u 2147483647 (2 * u + b) high h (unequal (2 * u + b) (2 * mark) mark none n refl))

  pub literal_cases : {P : Type 0} → (u < 2147483647 → literal_of u b ≡ 2 * u + b → P) → (2 * u + b ≡ 2 * mark → literal_of u b ≡ mark → P)
      → (2147483647 ≤ u → 2 * u + b ≢ 2 * mark → literal_of u b ≡ 4294967296 + 2 * u + b → P) → P
  literal_cases p q r =
      ⊎_elim
      (λ (l : u < 2147483647). p l (literal_low l))
      (λ (l : 2147483647 ≤ u).
      ⊎_elim
      (λ (e : 2 * u + b ≡ 2 * mark). q e (literal_mark l e))
      (λ (n : 2 * u + b ≢ 2 * mark). r l n (literal_none l n))
      (eq_or_ne (2 * u + b) (2 * mark)))
      (lt_or_le u 2147483647)

pub bit_mark : (x : ℕ) → x ≡ mark → bit_of x ≡ 0
unfolding bit_of
bit_mark x e = sym (equal x mark 0 (x % 2) e refl)

pub bit_other : (x : ℕ) → x ≢ mark → bit_of x ≡ x % 2
unfolding bit_of
bit_other x n = sym (unequal x mark 0 (x % 2) n refl)

pub bit_of_le_lem : (x : ℕ) → bit_of x ≤ 1
bit_of_le_lem x = ⊎_elim (λ (e : x ≡ mark). omega (arith, bit_mark x e)) (λ (n : x ≢ mark). omega (arith, bit_other x n)) (eq_or_ne x mark)

turn_sum : (a b t : ℕ) → a % 2 ≡ 0 → b ≤ 1 → a + (b + t) % 2 ≡ turn t (a + b)
unfolding turn
turn_sum a b t e h = omega arith

module _ (u b : ℕ) (w : u ≤ mark) (h : b ≤ 1) where
  pub literal_fits : literal_of u b < 1099511627776
  literal_fits = literal_cases u b {P = literal_of u b < 1099511627776} (λ l q. omega arith) (λ e q. omega arith) (λ l n q. omega arith)

  pub literal_bit : bit_of (literal_of u b) ≡ b
  literal_bit =
      literal_cases u b {P = bit_of (literal_of u b) ≡ b}
      (λ l q. rw q (omega (arith, bit_other (2 * u + b) (omega arith))))
      (λ e q. rw q (omega (arith, bit_mark mark refl)))
      (λ l n q. rw q (omega (arith, bit_other (4294967296 + 2 * u + b) (omega arith))))

  pub past_bit : bit_of (1099511627776 + 2 * u + b) ≡ b
  past_bit = omega (arith, bit_other (1099511627776 + 2 * u + b) (omega arith))

  -- turned as often as its bit is
  pub literal_turned : (t : ℕ) → (0 < t → index (literal_of u b) < 2147483647) → literal_of u ((b + t) % 2) ≡ turn t (literal_of u b)
  literal_turned zero k = let e : (b + 0) % 2 ≡ b = omega arith in rw e (sym (turn_zero (literal_of u b)))
  literal_turned (suc t) k =
      literal_cases u b {P = literal_of u ((b + suc t) % 2) ≡ turn (suc t) (literal_of u b)}
      (λ l q. let i = k (omega arith) in rw (q, literal_low u ((b + suc t) % 2) (omega arith)) (turn_sum (2 * u) b (suc t) (omega arith) h))
      (λ e q. absurd (omega (arith, k (omega arith))))
      (λ l n q. absurd (omega (arith, k (omega arith))))

  -- what stands in the index table
  pub literal_names : Names (literal_of u b) u
  literal_names =
      record {
        low = λ l. omega (arith, literal_low u b (omega arith));
        high = λ l. literal_cases u b {P = 2147483647 ≤ index (literal_of u b)} (λ k q. omega arith) (λ e q. omega arith) (λ k n q. omega arith);
      }

  -- whether it is the mark, where it is that or a literal
  pub literal_is_mark : IsWord (literal_of u b) → eqb u mark ≡ eqb (literal_of u b) mark
  literal_is_mark f =
      literal_cases u b {P = eqb u mark ≡ eqb (literal_of u b) mark}
      (λ l q. rw (ne_eqb u mark (omega arith), ne_eqb (literal_of u b) mark (omega arith)))
      (λ e q. rw (eq-eqb u mark (omega arith), eq-eqb (literal_of u b) mark q))
      (λ l n q. absurd (omega (arith, f (omega arith))))

  pub literal_no_mark : u ≢ mark → literal_of u b ≢ mark
  literal_no_mark n e = literal_cases u b {P = ⊥} (λ l q. omega arith) (λ k q. omega arith) (λ l k q. omega arith)

  -- a word of 32 bits, by its parts
  pub literal_word_lem : literal_of u b < 4294967296 → u ≢ mark → literal_of u b ≡ 2 * u + b
  literal_word_lem f n =
      literal_cases u b {P = literal_of u b ≡ 2 * u + b} (λ l q. q) (λ e q. absurd (omega arith)) (λ l k q. absurd (omega arith))

  pub literal_word_mark : literal_of u b < 4294967296 → u ≡ mark → literal_of u b ≡ mark
  literal_word_mark f e =
      literal_cases u b {P = literal_of u b ≡ mark} (λ l q. absurd (omega arith)) (λ k q. q) (λ l k q. absurd (omega arith))

-- an edge, by its parts
pub edge_parts : (u b : ℕ) → b ≤ 1 → index (literal_of u b) < 2147483647 → (u < 2147483647) × (literal_of u b ≡ 2 * u + b)
edge_parts u b h f =
    literal_cases u b {P = (u < 2147483647) × (literal_of u b ≡ 2 * u + b)} (λ l q. (omega arith, q)) (λ e q. absurd (omega arith)) (λ l k q. absurd (omega arith))

-- every word is the literal of its parts
pub parts_low : (x : ℕ) → index x < 2147483647 → (literal_of (x / 2) (x % 2) ≡ x) × (bit_of x ≡ x % 2)
parts_low x h = (omega (arith, literal_low (x / 2) (x % 2) (omega arith)), bit_other x (omega arith))

pub parts_mark : (x : ℕ) → x ≡ mark → (literal_of mark 0 ≡ x) × (bit_of x ≡ 0)
parts_mark x e = (omega (arith, literal_mark mark 0 (omega arith) refl), bit_mark x e)

-- the places of a lent table
module _ (us bs : List ℕ) where
  pub length_literals : length (literals us bs) ≡ max (length us) (64 * length bs)
  unfolding literals
  length_literals = length_tab _ _

  pub literals_at : (j : ℕ) → j < max (length us) (64 * length bs) → get_or (literals us bs) j 0 ≡ literal_at us bs j
  unfolding literals
  literals_at j h = get_d_tab _ _ j h

  abbrev missing : ℕ → ℕ
  missing j = 1099511627776 + 2 * index_at us j + bit_at bs j

  pub literal_in : (j : ℕ) → j < min (length us) (64 * length bs) → literal_at us bs j ≡ literal_of (index_at us j) (bit_at bs j)
  unfolding literal_at
  literal_in j h = sym (less j (min (length us) (64 * length bs)) (literal_of (index_at us j) (bit_at bs j)) (missing j) h refl)

  pub literal_past : (j : ℕ) → min (length us) (64 * length bs) ≤ j → literal_at us bs j ≡ 1099511627776 + 2 * index_at us j + bit_at bs j
  unfolding literal_at
  literal_past j h = sym (no_less j (min (length us) (64 * length bs)) (literal_of (index_at us j) (bit_at bs j)) (missing j) h refl)

  pub place_bit : (j : ℕ) → bit_of (literal_at us bs j) ≡ bit_at bs j
  place_bit j =
      ⊎_elim
      (λ (h : j < min (length us) (64 * length bs)). rw (literal_in j h) (literal_bit (index_at us j) (bit_at bs j) (index_at_le us j) (bit_at_le bs j)))
      (λ (h : min (length us) (64 * length bs) ≤ j). rw (literal_past j h) (past_bit (index_at us j) (bit_at bs j) (index_at_le us j) (bit_at_le bs j)))
      (lt_or_le j (min (length us) (64 * length bs)))

  pub bit_at_lem : (j : ℕ) → j < 64 * length bs → bit_of (get_or (literals us bs) j 0) ≡ bit_at bs j
  bit_at_lem j h = rw (literals_at j (omega arith)) (place_bit j)

-- how many of n places pass a test that those below m do, and no others
count_first : (n m : ℕ) (t : ℕ → Bool) → ((j : ℕ) → j < n → j < m → t j ≡ true) → ((j : ℕ) → j < n → m ≤ j → t j ≡ false) → count n t ≡ min n m
unfolding count sum
count_first zero m t p q = omega arith
count_first (suc n) m t p q =
    let e = count_first n m t (λ j h l. p j (omega arith) l) (λ j h l. q j (omega arith) l) in
    ⊎_elim
    (λ (l : n < m). rw (p n (omega arith) l) (omega (arith, e)))
    (λ (l : m ≤ n). rw (q n (omega arith) l) (omega (arith, e)))
    (lt_or_le n m)

pub held_literals : (us bs : List ℕ) → held (literals us bs) ≡ min (length us) (64 * length bs)
unfolding held
held_literals us bs =
    let m = min (length us) (64 * length bs) in
    rw (length_literals us bs)
    (count_first (max (length us) (64 * length bs)) m (λ j. ltb (get_or (literals us bs) j 0) 1099511627776)
    (λ j h l. lt-ltb (get_or (literals us bs) j 0) 1099511627776 (rw (literals_at us bs j h, literal_in us bs j l) (literal_fits (index_at us j) (bit_at bs j) (index_at_le us j) (bit_at_le bs j))))
    (λ j h l. le-ltb (get_or (literals us bs) j 0) 1099511627776 (rw (literals_at us bs j h, literal_past us bs j l) (omega arith)))
    ∙ omega arith)

-- what stands at a place that is held
module _ (us bs : List ℕ) (j : ℕ) (h : j < held (literals us bs)) where
  pub held_index : j < length us
  held_index = omega (arith, held_literals us bs)

  pub held_bit : j < 64 * length bs
  held_bit = omega (arith, held_literals us bs)

  pub held_at : get_or (literals us bs) j 0 ≡ literal_of (index_at us j) (bit_at bs j)
  held_at = let m = held_literals us bs in literals_at us bs j (omega arith) ∙ literal_in us bs j (omega arith)

pub held_le : (l : List ℕ) → held l ≤ length l
unfolding held count
held_le l = sum_le (λ j. cond (ltb (get_or l j 0) 1099511627776) 1 0) (λ j. cond_le (ltb (get_or l j 0) 1099511627776) 1 0 1 (omega arith) (omega arith)) (length l)

-- where the words differ in complement bits alone
fits_same : (x y : ℕ) → x / 2 ≡ y / 2 → ltb x 1099511627776 ≡ ltb y 1099511627776
fits_same x y e =
    ⊎_elim
    (λ (h : x < 1099511627776). rw (lt-ltb x 1099511627776 h, lt-ltb y 1099511627776 (omega arith)))
    (λ (h : 1099511627776 ≤ x). rw (le-ltb x 1099511627776 h, le-ltb y 1099511627776 (omega arith)))
    (lt_or_le x 1099511627776)

pub held_same : (l m : List ℕ) → length l ≡ length m → ((j : ℕ) → j < length m → get_or l j 0 / 2 ≡ get_or m j 0 / 2) → held l ≡ held m
unfolding held count
held_same l m e f =
    rw e (sum_same (length m) (λ j. cond (ltb (get_or l j 0) 1099511627776) 1 0) (λ j. cond (ltb (get_or m j 0) 1099511627776) 1 0) (λ j h. rw (fits_same (get_or l j 0) (get_or m j 0) (f j h))))

sum_ones : (m n : ℕ) (f : ℕ → ℕ) → ((j : ℕ) → j < n → f j ≡ 1) → min m n ≤ sum m f
unfolding sum
sum_ones zero n f e = omega arith
sum_ones (suc m) n f e =
    ⊎_elim (λ (l : m < n). omega (arith, sum_ones m n f e, e m l)) (λ (l : n ≤ m). omega (arith, sum_ones m n f e)) (lt_or_le m n)

pub held_all : (n : ℕ) (l : List ℕ) → n ≤ length l → ((j : ℕ) → j < n → get_or l j 0 < 1099511627776) → n ≤ held l
unfolding held count
held_all n l h f = omega (arith, sum_ones (length l) n (λ j. cond (ltb (get_or l j 0) 1099511627776) 1 0) (λ j k. rw (lt-ltb (get_or l j 0) 1099511627776 (f j k))))

-- bits past the first n places
pub strays_same : (n : ℕ) (l m : List ℕ) → ((j : ℕ) → n ≤ j → get_or l j 0 ≡ get_or m j 0) → strays n l ≡ strays n m
unfolding strays
strays_same n l m e = sum_same (64 * words_for n - n) _ _ (λ k h. ap bit_of (e (n + k) (omega arith)))

-- by an index of the index table
module _ {x u : ℕ} (n : Names x u) where
  pub names_index : index x < 2147483647 → u ≡ index x
  names_index h = ⊎_elim (λ (l : u < 2147483647). sym (n.low l)) (λ (l : 2147483647 ≤ u). absurd (omega (arith, n.high l))) (lt_or_le u 2147483647)

  pub names_is : (v : ℕ) → v < 2147483647 → eqb u v ≡ eqb (index x) v
  names_is v h =
      ⊎_elim
      (λ (l : u < 2147483647). rw (n.low l))
      (λ (l : 2147483647 ≤ u). rw (ne_eqb u v (omega arith), ne_eqb (index x) v (omega (arith, n.high l))))
      (lt_or_le u 2147483647)

  pub names_yes : (v : ℕ) → v < 2147483647 → u ≡ v → index x ≡ v
  names_yes v h e = n.low (omega arith) ∙ e

  pub names_no : (v : ℕ) → v < 2147483647 → u ≢ v → index x ≢ v
  names_no v h d e = d (names_index (omega arith) ∙ e)

  pub names_below : (end : ℕ) → end ≤ 2147483647 → ltb u end ≡ ltb (index x) end
  names_below end h =
      ⊎_elim
      (λ (l : u < 2147483647). rw (n.low l))
      (λ (l : 2147483647 ≤ u). rw (le-ltb u end (omega arith), le-ltb (index x) end (omega (arith, n.high l))))
      (lt_or_le u 2147483647)
