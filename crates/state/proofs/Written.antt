-- The bits that a state has, put in a row, and both tables once they are written: those of the graph that the state stands for. From the laws
-- of bits put, and of what is due.
use mathlib.Core.Path.{◌≡◌, sym, ap, ◌∙◌}
use mathlib.Core.Bool.{true, false}
use mathlib.Core.Logic.{⊎_elim}
use mathlib.Core.List.{List}
use Prim.Native.Nat.{ℕ, ◌+◌, ◌*◌, ◌/◌, ◌%◌, ◌≤◌, ◌<◌}
use native.Mathlib.Omega.{arith}
use lib.ListN.{length}
use Rattle.graph.specs.Graph.{Graph, mark, word, index, is_edge, is_xor}
use Rattle.graph.specs.Inner.{begun, BitPut, BitsPut}
use Rattle.graph.specs.Literals.{bit_at, index_at, literals, graph_in, bit_of}
use Rattle.graph.specs.Turned.{turned_table, up_to}
use Rattle.graph.proofs.BitsPut.{bits_next, bits_turned}
use Rattle.graph.proofs.Cases.{lt_or_le, true_or_false}
use Rattle.graph.proofs.Edge.{edge_none}
use Rattle.graph.proofs.Literals.{bit_at_le, index_at_le, literal_names, bit_at_lem, bit_mark, held_at, held_literals}
use Rattle.graph.proofs.Turned.{turned_both, turned_same, up_to_in, up_to_past}
use Rattle.graph.proofs.Words.{edge_low, edge_bit_lem}
use Rattle.state.specs.State.{bit_in, kept_bit, pending_at, due_in, due, output_due, bit_now, stands, Ordered}
use Rattle.state.proofs.Pending.{pending_index}
use Rattle.state.proofs.Stands.{pending_high, due_edge, due_mark}
use borrow.Author.Tests.{eq-eqb}

-- the bits of a node's words, put one after the other
pub node_put : (f : ℕ → ℕ) (bs d₀ d₁ d₂ d₃ : List ℕ) (n g₀ g₁ g₂ g₃ x y z : ℕ) → x ≡ f n → y ≡ f (n + 1) → z ≡ f (n + 2)
    → BitPut (begun n g₀ d₀) n x (begun (n + 1) g₁ d₁) → BitPut (begun (n + 1) g₁ d₁) (n + 1) y (begun (n + 1 + 1) g₂ d₂) → BitPut (begun (n + 2) g₂ d₂) (n + 2) z (begun (n + 2 + 1) g₃ d₃)
    → BitsPut f bs (begun n g₀ d₀) n → BitsPut f bs (begun (n + 3) g₃ d₃) (n + 3)
node_put f bs d₀ d₁ d₂ d₃ n g₀ g₁ g₂ g₃ x y z ex ey ez p q r s =
    let two : n + 1 + 1 ≡ n + 2 = omega arith in
    let three : n + 2 + 1 ≡ n + 3 = omega arith in
    let a = bits_next f bs (begun n g₀ d₀) (begun (n + 1) g₁ d₁) n x s p ex in
    let b = rw two at (bits_next f bs (begun (n + 1) g₁ d₁) (begun (n + 1 + 1) g₂ d₂) (n + 1) y a q ey) in
    rw three at (bits_next f bs (begun (n + 2) g₂ d₂) (begun (n + 2 + 1) g₃ d₃) (n + 2) z b r ez)

up_up : (k : ℕ) (t : ℕ → ℕ) (j : ℕ) → up_to k (up_to k t) j ≡ up_to k t j
up_up k t j = ⊎_elim (λ (h : j < k). up_to_in k (up_to k t) j h) (λ (h : k ≤ j). up_to_past k (up_to k t) j h ∙ sym (up_to_past k t j h)) (lt_or_le j k)

module _ (i n o : ℕ) (us bs vs cs sc : List ℕ) (or : Ordered (graph_in i n o us bs vs cs) sc) where
  abbrev g : Graph
  g = graph_in i n o us bs vs cs

  in_bits : (j : ℕ) → j < 3 * n → j < 64 * length bs
  in_bits j h = omega (arith, or.admitted.held_nodes, held_literals us bs)

  table_bit : (j : ℕ) → j < 3 * n → bit_at bs j ≡ bit_of (word g j)
  table_bit j h = sym (bit_at_lem us bs j (in_bits j h))

  -- what is pending, by the index table
  pending_raw : (j : ℕ) → j < 3 * n → pending_at i n sc (index_at us j) ≡ pending_at i n sc (index (word g j))
  pending_raw j h =
      pending_index i n sc (word g j) (index_at us j) or.admitted.few_inputs or.admitted.few_nodes
      (rw (held_at us bs j (omega (arith, or.admitted.held_nodes))) (literal_names (index_at us j) (bit_at bs j) (index_at_le us j) (bit_at_le bs j)))

  -- a mark keeps the bit 0
  mark_kept : (j : ℕ) → j < 3 * n → is_edge g j ≡ false → kept_bit sc j ≡ 0
  unfolding is_xor
  mark_kept j h e =
      let q = edge_none g j e in
      let r : 3 * (j / 3) + 2 ≡ j = omega (arith, q.0) in
      ap (λ k. bit_in sc (j / 3) (1 + k)) q.0 ∙ or.marks (j / 3) (omega arith) (eq-eqb (word g (3 * (j / 3) + 2)) mark (rw r q.1))

  bit_due : (j : ℕ) → j < 3 * n → bit_now i n sc us j ≡ (bit_at bs j + due g sc j) % 2
  unfolding bit_now
  bit_due j h =
      ⊎_elim
      (λ (e : is_edge g j ≡ true).
      rw (due_edge g sc j h e, pending_raw j h)
      (omega (arith, table_bit j h, edge_bit_lem (word g j) (edge_low g or.admitted j h e))))
      (λ (e : is_edge g j ≡ false).
      let q = edge_none g j e in
      rw (due_mark g sc j e, pending_raw j h, pending_high i n sc (index (word g j)) (omega (arith, q.1, or.admitted.few_inputs, or.admitted.few_nodes)), mark_kept j h e, table_bit j h, bit_mark (word g j) q.1))
      (true_or_false (is_edge g j))

  turned_low : (j : ℕ) → j < 3 * n → 0 < due g sc j → index (word g j) < 2147483647
  turned_low j h p =
      ⊎_elim
      (λ (e : is_edge g j ≡ true). edge_low g or.admitted j h e)
      (λ (e : is_edge g j ≡ false). absurd (omega (arith, due_mark g sc j e)))
      (true_or_false (is_edge g j))

  pub nodes_written : (ds : List ℕ) → BitsPut (bit_now i n sc us) bs ds (3 * n) → literals us ds ≡ turned_table (literals us bs) (up_to (3 * n) (due g sc))
  nodes_written ds p = bits_turned us bs ds (3 * n) (bit_now i n sc us) (due g sc) or.admitted.held_nodes or.admitted.clean_nodes p bit_due turned_low

  -- both tables
  pub written : (ds es : List ℕ) → BitsPut (bit_now i n sc us) bs ds (3 * n) → literals vs es ≡ turned_table (literals vs cs) (up_to o (due_in i n sc (literals vs cs)))
      → graph_in i n o us ds vs es ≡ stands g sc
  unfolding stands due output_due
  written ds es p q = turned_both g (due g sc) (output_due g sc) (literals us ds) (literals vs es) (nodes_written ds p ∙ turned_same (literals us bs) _ _ (λ j l. up_up (3 * n) _ j)) q
