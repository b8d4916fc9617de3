-- The literals of a lent table tell every word of both its slices, and C is the ones of the words of bits. From the laws of a place (crate
-- graph, Literals), of ones (Counted), and from a word's bits, which make the word.
use mathlib.Core.Path.{◌≡◌, refl, sym, ap, ◌∙◌}
use mathlib.Core.Logic.{⊎_elim}
use mathlib.Core.List.{List}
use Prim.Native.Nat.{ℕ, ◌+◌, ◌*◌, ◌/◌, ◌%◌, ◌≤◌, ◌<◌, min, max}
use native.Mathlib.Omega.{arith}
use lib.Seq.{ext_get_or}
use lib.ListN.{length, get_or}
use Rattle.graph.specs.Graph.{mark}
use Rattle.graph.specs.Literals.{bit, bit_at, index_at, literal_of, literal_at, literals, bit_of}
use Rattle.graph.proofs.Cases.{lt_or_le}
use Rattle.evaluation.proofs.Gather.{word_is}
use Rattle.graph.proofs.Counted.{ones_counted}
use Rattle.graph.proofs.Literals.{bit_at_le, index_at_le, index_is, literal_cases, literals_at, literal_in, literal_past, place_bit}
use Rattle.packed.specs.Old.{TellsAll, OnesAreC}

-- two lists have the same word m where it has the same bits
pub word_same : (bs ds : List ℕ) (m : ℕ) → get_or bs m 0 < 18446744073709551616 → get_or ds m 0 < 18446744073709551616
    → ((j : ℕ) → j < 64 * (m + 1) → bit_at bs j ≡ bit_at ds j) → get_or bs m 0 ≡ get_or ds m 0
unfolding bit_at
word_same bs ds m x y e =
    let f : ℕ → ℕ = λ i. bit i (get_or ds m 0) in
    word_is f (get_or bs m 0) x
    (λ i l.
    let a : (64 * m + i) / 64 ≡ m = omega arith in
    let b : (64 * m + i) % 64 ≡ i = omega arith in
    rw (a, b) at (e (64 * m + i) (omega arith)))
    ∙ sym (word_is f (get_or ds m 0) y (λ i l. refl))

-- the index that a literal was made of
pub index_told : (u v b : ℕ) → u ≤ mark → v ≤ mark → b ≤ 1 → literal_of u b ≡ literal_of v b → u ≡ v
index_told u v b p q h e =
    literal_cases u b {P = u ≡ v}
    (λ l x. literal_cases v b {P = u ≡ v} (λ m y. omega arith) (λ m y. omega arith) (λ m n y. omega arith))
    (λ l x. literal_cases v b {P = u ≡ v} (λ m y. omega arith) (λ m y. omega arith) (λ m n y. omega arith))
    (λ l k x. literal_cases v b {P = u ≡ v} (λ m y. omega arith) (λ m y. omega arith) (λ m n y. omega arith))

module _ (us bs vs ds : List ℕ) (p : length us ≡ length vs) (q : length bs ≡ length ds) (e : literals us bs ≡ literals vs ds) where
  place_same : (j : ℕ) → j < max (length us) (64 * length bs) → literal_at us bs j ≡ literal_at vs ds j
  place_same j h = sym (literals_at us bs j h) ∙ ap (λ (l : List ℕ). get_or l j 0) e ∙ literals_at vs ds j (omega arith)

  -- whether the place has a bit or not
  bit_same : (j : ℕ) → j < max (length us) (64 * length bs) → bit_at bs j ≡ bit_at ds j
  bit_same j h = sym (place_bit us bs j) ∙ ap bit_of (place_same j h) ∙ place_bit vs ds j

  index_same : (j : ℕ) → j < length us → index_at us j ≡ index_at vs j
  index_same j h =
      let b = bit_same j (omega arith) in
      ⊎_elim
      (λ (l : j < min (length us) (64 * length bs)).
      index_told (index_at us j) (index_at vs j) (bit_at bs j) (index_at_le us j) (index_at_le vs j) (bit_at_le bs j)
      (sym (literal_in us bs j l) ∙ place_same j (omega arith) ∙ literal_in vs ds j (omega arith) ∙ ap (literal_of (index_at vs j)) (sym b)))
      (λ (l : min (length us) (64 * length bs) ≤ j).
      omega (arith, literal_past us bs j l, literal_past vs ds j (omega arith), place_same j (omega arith), b))
      (lt_or_le j (min (length us) (64 * length bs)))

pub tells_all : (us bs vs ds : List ℕ) → TellsAll us bs vs ds
tells_all us bs vs ds iu iv wb wd p q e = (
  ext_get_or 0 us vs p (λ j h. index_is us j (iu j) ∙ index_same us bs vs ds p q e j h ∙ sym (index_is vs j (iv j))),
  ext_get_or 0 bs ds q (λ k h. word_same bs ds k (wb k) (wd k) (λ j l. bit_same us bs vs ds p q e j (omega arith))),
)

pub ones_are_c : (i n o : ℕ) (us bs vs ds : List ℕ) → OnesAreC i n o us bs vs ds
ones_are_c i n o us bs vs ds adm p q = sym (ones_counted i n o us bs vs ds adm p q)
