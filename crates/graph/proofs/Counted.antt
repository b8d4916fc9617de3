-- C of an admitted graph is the number of ones in the words of both its tables, of any number of words; and the bits past the last literal
-- are what is left of its word, shifted. From the laws of ones, of places and of edges.
use Rattle.std.proofs.Common.{◌≡◌, ℕ, zero, suc, ◌+◌, ◌-◌, ◌*◌, ◌/◌, ◌%◌, ◌^◌, ◌<◌, ◌≤◌, Bool, true, false, cond, not, ◌&&◌, eqb, List, length, get_or, sym, refl, ap, ◌∙◌, ⊎_elim, arith, shr-shr, shr_lt}
use lib.Count.{ones}
use Rattle.graph.specs.Admission.{Admitted}
use Rattle.graph.specs.Count.{C, adds, word_adds, node_adds, output_adds}
use Rattle.graph.specs.Finite.{sum}
use Rattle.graph.specs.Graph.{Graph, mark, word, output, is_edge}
use Rattle.graph.specs.Literals.{bit, bit_at, literals, graph_in, bit_of, words_for, strays, ones_in}
use Rattle.graph.proofs.Cases.{true_or_false}
use Rattle.graph.proofs.Edge.{edge_none}
use Rattle.graph.proofs.Finite.{sum_same}
use Rattle.graph.proofs.Literals.{bit_at_lem, bit_mark, bit_other, held_literals}
use Rattle.graph.proofs.Ones.{sum_add, ones_bits, ones_words}

pub sum_none : (n : ℕ) (f : ℕ → ℕ) → ((j : ℕ) → j < n → f j ≡ 0) → sum n f ≡ 0
unfolding sum
sum_none zero f h = refl
sum_none (suc n) f h = omega (arith, sum_none n f (λ j k. h j (omega arith)), h n (omega arith))

-- a sum that goes past n by terms that add nothing
sum_past : (n m : ℕ) (f : ℕ → ℕ) → n ≤ m → sum (m - n) (λ j. f (n + j)) ≡ 0 → sum m f ≡ sum n f
sum_past n m f h z =
    let e : m ≡ n + (m - n) = omega arith in
    rw e (sum_add n (m - n) f ∙ omega (arith, z))

module _ (g : Graph) (adm : Admitted g) where
  edge_bit_lem : (j : ℕ) → j < 3 * g.N → bit_of (word g j) ≡ node_adds g j
  unfolding node_adds word_adds is_edge adds
  edge_bit_lem j h =
      ⊎_elim
      (λ (e : is_edge g j ≡ true).
      let b = adm.below j h e in
      bit_other (word g j) (omega (arith, b, adm.few_inputs, adm.few_nodes))
      ∙ from_edge (eqb (j % 3) 2 && eqb (word g j) mark) (word g j % 2) e)
      (λ (e : is_edge g j ≡ false). bit_mark (word g j) (edge_none g j e).1 ∙ from_none (eqb (j % 3) 2 && eqb (word g j) mark) (word g j % 2) e)
      (true_or_false (is_edge g j))
    where
      from_edge : (b : Bool) (x : ℕ) → not b ≡ true → x ≡ cond b 0 x
      from_edge true x e = cc
      from_edge false x e = refl

      from_none : (b : Bool) (x : ℕ) → not b ≡ false → 0 ≡ cond b 0 x
      from_none true x e = refl
      from_none false x e = cc

  output_bit : (j : ℕ) → j < g.O → bit_of (output g j) ≡ output_adds g j
  unfolding output_adds adds
  output_bit j h =
      let b = adm.output_below j h in
      bit_other (output g j) (omega (arith, b, adm.few_inputs, adm.few_nodes))

  -- C is the sum of the bits in the words of both tables
  pub counted : sum (64 * words_for (3 * g.N)) (λ j. bit_of (word g j)) + sum (64 * words_for g.O) (λ j. bit_of (output g j)) ≡ C g
  unfolding C strays
  counted =
      omega (
        arith,
        sum_past (3 * g.N) (64 * words_for (3 * g.N)) (λ j. bit_of (word g j)) (omega arith) adm.clean_nodes ∙ sum_same (3 * g.N) _ _ edge_bit_lem,
        sum_past g.O (64 * words_for g.O) (λ j. bit_of (output g j)) (omega arith) adm.clean_outputs ∙ sum_same g.O _ _ output_bit,
      )

module _ (i n o : ℕ) (us bs vs ds : List ℕ) (adm : Admitted (graph_in i n o us bs vs ds)) where
  pub bits_counted : sum (64 * words_for (3 * n)) (bit_at bs) + sum (64 * words_for o) (bit_at ds) ≡ C (graph_in i n o us bs vs ds)
  bits_counted =
      omega (
        arith,
        counted (graph_in i n o us bs vs ds) adm,
        sum_same (64 * words_for (3 * n)) (λ j. bit_of (get_or (literals us bs) j 0)) (bit_at bs) (λ j h. bit_at_lem us bs j (omega (arith, adm.held_nodes, held_literals us bs))),
        sum_same (64 * words_for o) (λ j. bit_of (get_or (literals vs ds) j 0)) (bit_at ds) (λ j h. bit_at_lem vs ds j (omega (arith, adm.held_outputs, held_literals vs ds))),
      )

  -- the count: the number of ones in the words of both tables together
  pub ones_counted : ((k : ℕ) → get_or bs k 0 < 18446744073709551616) → ((k : ℕ) → get_or ds k 0 < 18446744073709551616)
      → ones_in (words_for (3 * n)) bs + ones_in (words_for o) ds ≡ C (graph_in i n o us bs vs ds)
  ones_counted p q = omega (arith, bits_counted, ones_words bs (words_for (3 * n)) p, ones_words ds (words_for o) q)

-- bits past the last literal
module _ (us bs : List ℕ) (n : ℕ) where
  pub strays_whole : n % 64 ≡ 0 → strays n (literals us bs) ≡ 0
  unfolding strays sum
  strays_whole e = let z : 64 * words_for n - n ≡ 0 = omega arith in rw z

  bit_shifted : (k m w : ℕ) → bit m (w / 2 ^ k) ≡ bit (k + m) w
  unfolding bit
  bit_shifted k m w = ap (λ (x : ℕ). x % 2) (shr-shr w k m)

  shift_small : (k w : ℕ) → k ≤ 64 → w < 18446744073709551616 → w / 2 ^ k < 2 ^ (64 - k)
  shift_small k w h l = let e : 64 - k + k ≡ 64 = omega arith in shr_lt (64 - k) k (rw e l)

  here : (m : ℕ) → m < 64 - n % 64 → bit_at bs (n + m) ≡ bit (n % 64 + m) (get_or bs (n / 64) 0)
  unfolding bit_at
  here m p =
      let q : (n + m) / 64 ≡ n / 64 = omega arith in
      let r : (n + m) % 64 ≡ n % 64 + m = omega arith in
      rw (q, r)

  pub strays_ones : (n % 64 ≡ 0 → ⊥) → n ≤ 64 * length bs → get_or bs (n / 64) 0 < 18446744073709551616
      → strays n (literals us bs) ≡ ones (get_or bs (n / 64) 0 / 2 ^ (n % 64))
  unfolding strays
  strays_ones d h l =
      let k = n % 64 in
      let w = get_or bs (n / 64) 0 in
      let z : 64 * words_for n - n ≡ 64 - n % 64 = omega arith in
      rw z
      (sum_same (64 - k) (λ m. bit_of (get_or (literals us bs) (n + m) 0)) (λ m. bit m (w / 2 ^ k))
      (λ m p. bit_at_lem us bs (n + m) (omega arith) ∙ here m p ∙ sym (bit_shifted k m w))
      ∙ sym (ones_bits (64 - k) (w / 2 ^ k) (shift_small k w (omega arith) l)))
