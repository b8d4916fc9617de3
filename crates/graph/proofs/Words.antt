-- The words of an admitted graph are literals with low indices, or the mark: what reading them asks. From what an admitted graph is.
use Rattle.std.proofs.Common.{◌≡◌, ℕ, zero, suc, ◌+◌, ◌*◌, ◌/◌, ◌%◌, ◌^◌, ◌<◌, ◌≤◌, true, false, ◌≢◌, List, get_or, ◌∙◌, ⊎_elim, div-one, arith}
use Rattle.graph.specs.Admission.{Admitted}
use Rattle.graph.specs.Graph.{Graph, mark, word, output, index, is_edge}
use Rattle.graph.specs.Inner.{IsWord, Readable, three_bits, Twelve}
use Rattle.graph.specs.Literals.{bit_at, literals, held, bit_of}
use Rattle.graph.proofs.Cases.{eq_or_ne, true_or_false}
use Rattle.graph.proofs.Edge.{edge_early, edge_none}
use Rattle.graph.proofs.Bits.{three_more}
use Rattle.graph.proofs.Literals.{bit_at_lem, bit_mark, bit_other, held_literals}

pub word_below : (x : ℕ) → IsWord x → x < 4294967296
word_below x f = ⊎_elim (λ (e : x ≡ mark). omega arith) (λ (n : x ≢ mark). omega (arith, f n)) (eq_or_ne x mark)

-- the bit of an edge is its complement bit
pub edge_bit_lem : (x : ℕ) → index x < 2147483647 → bit_of x ≡ x % 2
edge_bit_lem x h = bit_other x (omega arith)

bit_of_le : (x : ℕ) → bit_of x ≤ 1
bit_of_le x = ⊎_elim (λ (e : x ≡ mark). omega (arith, bit_mark x e)) (λ (n : x ≢ mark). omega (arith, bit_other x n)) (eq_or_ne x mark)

-- each bit of a node's three
pub three_apart : (l : List ℕ) (v k : ℕ) → k ≤ 2 → three_bits l v / 2 ^ k % 2 ≡ bit_of (get_or l (3 * v + k) 0)
unfolding three_bits
three_apart l v zero h = let e : 3 * v + 0 ≡ 3 * v = omega arith in rw e (omega (arith, bit_of_le (get_or l (3 * v) 0)))
three_apart l v (suc zero) h = omega (arith, bit_of_le (get_or l (3 * v) 0), bit_of_le (get_or l (3 * v + 1) 0))
three_apart l v (suc (suc zero)) h = omega (arith, bit_of_le (get_or l (3 * v) 0), bit_of_le (get_or l (3 * v + 1) 0), bit_of_le (get_or l (3 * v + 2) 0))
three_apart l v (suc (suc (suc k))) h = absurd (omega arith)

pub three_le : (l : List ℕ) (v : ℕ) → three_bits l v ≤ 7
unfolding three_bits
three_le l v = omega (arith, bit_of_le (get_or l (3 * v) 0), bit_of_le (get_or l (3 * v + 1) 0), bit_of_le (get_or l (3 * v + 2) 0))

-- they are the bits of its three places
pub three_held : (us bs : List ℕ) (v p : ℕ) → p ≡ 3 * v → 3 * v + 2 < held (literals us bs)
    → bit_at bs p + 2 * bit_at bs (p + 1) + 4 * bit_at bs (p + 2) ≡ three_bits (literals us bs) v
unfolding three_bits
three_held us bs v p e h =
    let q = held_literals us bs in
    rw (e, bit_at_lem us bs (3 * v) (omega arith), bit_at_lem us bs (3 * v + 1) (omega arith), bit_at_lem us bs (3 * v + 2) (omega arith))

-- those of four nodes, by one shift and each by itself
pub twelve_shifted : (us bs : List ℕ) (v : ℕ) → 3 * v % 64 < 53 → 3 * (v + 3) + 2 < held (literals us bs)
    → Twelve (literals us bs) v (get_or bs (3 * v / 64) 0 / 2 ^ (3 * v % 64) % 4096)
twelve_shifted us bs v h k =
    let w = get_or bs (3 * v / 64) 0 / 2 ^ (3 * v % 64) in
    let l = literals us bs in
    let t : (m n : ℕ) → m ≤ 9 → 3 * v + m ≡ 3 * n → n ≤ v + 3 → w / 2 ^ m % 8 ≡ three_bits l n =
    λ m n a e f. three_more bs (3 * v) m (omega arith) ∙ three_held us bs n (3 * v + m) e (omega arith) in
    let o = div-one w in
    record {
      first = omega (arith, rw o at (t 0 v (omega arith) (omega arith) (omega arith)));
      second = omega (arith, t 3 (v + 1) (omega arith) (omega arith) (omega arith));
      third = omega (arith, t 6 (v + 2) (omega arith) (omega arith) (omega arith));
      fourth = omega (arith, t 9 (v + 3) (omega arith) (omega arith) (omega arith));
    }

pub twelve_apart : (l : List ℕ) (v x y z u : ℕ) → x ≡ three_bits l v → y ≡ three_bits l (v + 1) → z ≡ three_bits l (v + 2) → u ≡ three_bits l (v + 3)
    → Twelve l v (x + 8 * y + 64 * z + 512 * u)
twelve_apart l v x y z u p q r s =
    let a : x ≤ 7 = rw p (three_le l v) in
    let b : y ≤ 7 = rw q (three_le l (v + 1)) in
    let c : z ≤ 7 = rw r (three_le l (v + 2)) in
    let d : u ≤ 7 = rw s (three_le l (v + 3)) in
    record { first = rw (← p) (omega arith); second = rw (← q) (omega arith); third = rw (← r) (omega arith); fourth = rw (← s) (omega arith) }

pub readable_below : (l : List ℕ) (v : ℕ) → Readable l v → (k : ℕ) → k ≤ 2 → get_or l (3 * v + k) 0 < 4294967296
readable_below l v r zero h = let e : 3 * v + 0 ≡ 3 * v = omega arith in rw e (omega (arith, r.first))
readable_below l v r (suc zero) h = omega (arith, r.second)
readable_below l v r (suc (suc zero)) h = word_below (get_or l (3 * v + 2) 0) r.third
readable_below l v r (suc (suc (suc k))) h = absurd (omega arith)

module _ (g : Graph) (adm : Admitted g) where
  pub edge_low : (j : ℕ) → j < 3 * g.N → is_edge g j ≡ true → index (word g j) < 2147483647
  edge_low j h e = omega (arith, adm.below j h e, adm.few_inputs, adm.few_nodes)

  pub is_word : (j : ℕ) → j < 3 * g.N → IsWord (word g j)
  is_word j h n =
      ⊎_elim (λ (e : is_edge g j ≡ true). edge_low j h e) (λ (e : is_edge g j ≡ false). absurd (n (edge_none g j e).1)) (true_or_false (is_edge g j))

  pub word_fits : (j : ℕ) → j < 3 * g.N → word g j < 4294967296
  word_fits j h = word_below (word g j) (is_word j h)

  pub readable : (v : ℕ) → v < g.N → Readable g.nodes v
  readable v h =
      record {
        there = omega (arith, adm.held_nodes);
        few = omega (arith, adm.few_nodes);
        first = edge_low (3 * v) (omega arith) (edge_early g (3 * v) (omega arith));
        second = edge_low (3 * v + 1) (omega arith) (edge_early g (3 * v + 1) (omega arith));
        third = is_word (3 * v + 2) (omega arith);
      }

  pub out_low : (j : ℕ) → j < g.O → index (output g j) < 2147483647
  out_low j h = omega (arith, adm.output_below j h, adm.few_inputs, adm.few_nodes)

  pub output_fits : (j : ℕ) → j < g.O → output g j < 4294967296
  output_fits j h = word_below (output g j) (λ n. out_low j h)
