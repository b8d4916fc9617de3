-- Words by index, and the value of a literal and of a node in one bit place of them. From the laws on bits.
use mathlib.Core.Path.{◌≡◌, refl, sym, ap, ap₂, ◌∙◌}
use mathlib.Core.Bool.{Bool, true, false, cond}
use mathlib.Core.List.{List, [], ◌∷◌, ◌++◌}
use Prim.Native.Nat.{ℕ, zero, suc, ◌+◌, ◌-◌, ◌*◌, ◌/◌, ◌%◌, ◌≤◌, ◌<◌}
use native.Mathlib.Omega.{arith}
use lib.ListN.{length, get_or, take, get_or-append}
use lib.Seq.{get_or-take, get_or-append-add, length-take-le}
use Rattle.graph.specs.Graph.{Graph, word, index, is_xor}
use Rattle.graph.specs.Inner.{Readable}
use Rattle.graph.specs.Literals.{bit}
use Rattle.graph.specs.Value.{majority, exclusive, literal_value, node_value}
use Rattle.graph.proofs.Values.{literal_bit}
use Rattle.evaluation.specs.Word.{gather}
use Rattle.evaluation.specs.Inner.{by_index, column, literal_word, NodeBelow, NodeNamed}
use Rattle.evaluation.proofs.Bits.{bit_zero}
use Rattle.evaluation.proofs.Gather.{gather_same, bit_gather}

pub get_d_right : (xs ys : List ℕ) (k : ℕ) → length xs ≤ k → get_or (xs ++ ys) k 0 ≡ get_or ys (k - length xs) 0
get_d_right xs ys k h =
    let e : k ≡ length xs + (k - length xs) = omega arith in
    ap (λ (n : ℕ). get_or (xs ++ ys) n 0) e ∙ get_or-append-add xs ys (k - length xs) 0

get_d_column : (j : ℕ) (ws : List ℕ) (i : ℕ) → get_or (column j ws) i 0 ≡ bit j (get_or ws i 0)
unfolding column
get_d_column j [] i = sym (bit_zero j)
get_d_column j (w ∷ ws) zero = refl
get_d_column j (w ∷ ws) (suc i) = get_d_column j ws i

module _ (i : ℕ) (words node_words : List ℕ) (long : i ≤ length words) where
  pub at_constant : get_or (by_index i words node_words) 0 0 ≡ 0
  unfolding by_index
  at_constant = refl

  pub at_input : (k : ℕ) → 0 < k → k ≤ i → get_or (by_index i words node_words) k 0 ≡ get_or words (k - 1) 0
  unfolding by_index
  at_input zero p h = absurd (omega arith)
  at_input (suc k) p h =
      let l = length-take-le i words long in
      let e : suc k - 1 ≡ k = omega arith in
      rw e (get_or-append (take i words) node_words 0 k (omega arith) ∙ get_or-take i words k 0 (omega arith))

  pub at_node : (k : ℕ) → i < k → get_or (by_index i words node_words) k 0 ≡ get_or node_words (k - i - 1) 0
  unfolding by_index
  at_node zero h = absurd (omega arith)
  at_node (suc k) h =
      let l = length-take-le i words long in
      let e : k - length (take i words) ≡ suc k - i - 1 = omega arith in
      get_d_right (take i words) node_words k (omega arith) ∙ ap (λ (n : ℕ). get_or node_words n 0) e

-- the word of a literal's index, turned as its bit says, is the literal's word
pub literal_is : (ws : List ℕ) (x u b w r : ℕ) → u ≡ index x → b ≡ x % 2 → w ≡ get_or ws u 0 → r ≡ gather (λ j. (bit j w + b) % 2) 64 → r ≡ literal_word ws x
unfolding literal_word literal_value
literal_is ws x u b w r e d p q =
    q ∙ gather_same (λ j. (bit j w + b) % 2) (λ j. (get_or (column j ws) (x / 2) 0 + x % 2) % 2) 64
    (λ j h. ap₂ (λ (m n : ℕ). (m + n) % 2) (ap (bit j) p ∙ sym (get_d_column j ws u) ∙ ap (λ (n : ℕ). get_or (column j ws) n 0) e) d)

pub literal_at_lem : (ws : List ℕ) (x j : ℕ) → j < 64 → bit j (literal_word ws x) ≡ literal_value (column j ws) x
unfolding literal_word
literal_at_lem ws x j h = bit_gather (λ k. literal_value (column k ws) x) (λ k. literal_bit (column k ws) x) 64 j h

-- the bits of the words of a node's literals, joined as the node says
module _ (g : Graph) (v : ℕ) (ws : List ℕ) (x y r : ℕ) (p : x ≡ literal_word ws (word g (3 * v))) (q : y ≡ literal_word ws (word g (3 * v + 1))) where
  pub node_joined : (k : Bool) (z : ℕ) → k ≡ is_xor g v → (k ≡ false → z ≡ literal_word ws (word g (3 * v + 2)))
      → (j : ℕ) → j < 64 → bit j r ≡ cond k (exclusive (bit j x) (bit j y)) (majority (bit j x) (bit j y) (bit j z)) → bit j r ≡ node_value g (column j ws) v
  unfolding node_value
  node_joined true z e t j h s =
      let o : 3 * v + 0 ≡ 3 * v = omega arith in
      simp (o, ← e)
      (s ∙ ap₂ exclusive (ap (bit j) p ∙ literal_at_lem ws (word g (3 * v)) j h) (ap (bit j) q ∙ literal_at_lem ws (word g (3 * v + 1)) j h))
  node_joined false z e t j h s =
      let a = ap (bit j) p ∙ literal_at_lem ws (word g (3 * v)) j h in
      let b = ap (bit j) q ∙ literal_at_lem ws (word g (3 * v + 1)) j h in
      let d = ap (bit j) (t refl) ∙ literal_at_lem ws (word g (3 * v + 2)) j h in
      let o : 3 * v + 0 ≡ 3 * v = omega arith in
      simp (o, ← e) (cc)

-- one of two indices, the second of which is looked up at a majority alone
pub either_can : (can : ℕ → Type 0) (k : Bool) (u v : ℕ) → can u → (k ≡ false → can v) → can (cond k u v)
either_can can true u v h f = h
either_can can false u v h f = f refl

-- what of a node's words can be read, of which each names an index that there is a word of
pub readable_named : (can : ℕ → Type 0) (l : List ℕ) (v : ℕ) → NodeNamed can l v → Readable l v
readable_named can l v b = record { there = b.there; few = b.few; first = b.first.0; second = b.second.0; third = λ n. (b.third n).0 }

-- there is one of each index below the node's own
pub named_below : (can : ℕ → Type 0) (i : ℕ) (l : List ℕ) (v : ℕ) → NodeBelow i l v → v ≤ 100000 → ((k : ℕ) → k < i + 1 + v → can k) → NodeNamed can l v
named_below can i l v b h f =
    record {
      there = b.there;
      few = h;
      first = (omega (arith, b.few, b.first), f _ b.first);
      second = (omega (arith, b.few, b.second), f _ b.second);
      third = λ n. (omega (arith, b.few, b.third n), f _ (b.third n));
    }
