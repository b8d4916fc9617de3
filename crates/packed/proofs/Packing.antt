-- A table of literals, packed, is the old table again; and a graph in such tables that was admitted is admitted packed. From the laws of a
-- word gathered from its bits (crate evaluation, Gather) and of a packed table.
use mathlib.Core.Path.{◌≡◌, refl, sym, ap, ◌∙◌}
use mathlib.Core.Logic.{inl, inr, ⊎_elim, ◌≢◌}
use mathlib.Core.List.{List}
use Prim.Native.Nat.{ℕ, ◌+◌, ◌-◌, ◌*◌, ◌/◌, ◌%◌, ◌≤◌, ◌<◌}
use native.Mathlib.Omega.{arith}
use lib.Seq.{ext_get_or}
use lib.ListN.{length, get_or, get_or-eq_default}
use Rattle.graph.specs.Admission.{admission_number}
use Rattle.graph.specs.Finite.{if_equal}
use Rattle.graph.specs.Graph.{Graph, mark, index}
use Rattle.graph.specs.Inner.{IsWord}
use Rattle.graph.specs.Literals.{bit, bit_at, index_at, literals, graph_in, held, bit_of, words_for, strays}
use Rattle.graph.proofs.Admit.{admitted}
use Rattle.graph.proofs.Cases.{eq_or_ne}
use Rattle.graph.proofs.Counted.{sum_none}
use Rattle.graph.proofs.Finite.{length_tab, get_d_tab}
use Rattle.graph.proofs.Literals.{bit_mark, bit_other, bit_of_le_lem, bit_at_lem, held_literals}
use Rattle.graph.proofs.Tests.{equal, unequal}
use Rattle.graph.proofs.Turned.{same_graph}
use Rattle.graph.proofs.Words.{is_word, out_low}
use Rattle.evaluation.specs.Word.{gather}
use Rattle.evaluation.proofs.Gather.{bit_gather}
use Rattle.packed.specs.Old.{old_table, old_graph, old_number, IsOld, Packed, indices_of, bits_of, EveryOld}
use Rattle.packed.proofs.Old.{old_at, old_long, refused_alike, same_rule}

module _ (l : List ℕ) where
  indices_long : length (indices_of l) ≡ length l
  unfolding indices_of
  indices_long = length_tab _ _

  bits_long : length (bits_of l) ≡ words_for (length l)
  unfolding bits_of
  bits_long = length_tab _ _

  -- the bit of place j, also past the last literal
  packed_bit : (j : ℕ) → j < 64 * words_for (length l) → bit_at (bits_of l) j ≡ bit_of (get_or l j 0)
  unfolding bits_of bit_at
  packed_bit j h =
      let e : 64 * (j / 64) + j % 64 ≡ j = omega arith in
      let f : ℕ → ℕ = λ m. bit_of (get_or l (64 * (j / 64) + m) 0) in
      ap (bit (j % 64)) (get_d_tab (words_for (length l)) (λ k. gather (λ m. bit_of (get_or l (64 * k + m) 0)) 64) (j / 64) (omega arith))
      ∙ bit_gather f (λ m. omega (arith, bit_of_le_lem (get_or l (64 * (j / 64) + m) 0))) 64 (j % 64) (omega arith)
      ∙ ap (λ (i : ℕ). bit_of (get_or l i 0)) e

  packed_index : (j : ℕ) → j < length l → get_or (indices_of l) j 0 ≡ if_equal (get_or l j 0) mark mark (index (get_or l j 0))
  unfolding indices_of
  packed_index j h = get_d_tab _ _ j h

  packed_mark : (j : ℕ) → j < length l → get_or l j 0 ≡ mark → (index_at (indices_of l) j ≡ mark) × (bit_at (bits_of l) j ≡ 0)
  unfolding index_at
  packed_mark j h e =
      let x : ℕ = get_or l j 0 in
      (omega (arith, packed_index j h ∙ sym (equal x mark mark (index x) e refl)), packed_bit j (omega arith) ∙ bit_mark x e)

  packed_other : (j : ℕ) → j < length l → get_or l j 0 < 4294967296 → get_or l j 0 ≢ mark → (index_at (indices_of l) j ≡ index (get_or l j 0)) × (bit_at (bits_of l) j ≡ get_or l j 0 % 2)
  unfolding index_at
  packed_other j h w n =
      let x : ℕ = get_or l j 0 in
      (omega (arith, packed_index j h ∙ sym (unequal x mark mark (index x) n refl)), packed_bit j (omega arith) ∙ bit_other x n)

  pub table_back : (n : ℕ) → length l ≡ n → ((j : ℕ) → j < n → get_or l j 0 < 4294967296) → old_table n (indices_of l) (bits_of l) ≡ l
  table_back n e w =
      ext_get_or 0 _ _ (old_long n (indices_of l) (bits_of l) ∙ sym e)
      (λ j h.
      let k : j < n = rw (old_long n (indices_of l) (bits_of l)) at h in
      let x : ℕ = get_or l j 0 in
      let u : ℕ = index_at (indices_of l) j in
      let b : ℕ = bit_at (bits_of l) j in
      old_at n (indices_of l) (bits_of l) j k
      ∙ ⊎_elim
      (λ (q : x ≡ mark). sym (equal u mark mark (2 * u + b) (packed_mark j (omega arith) q).0 q))
      (λ (d : x ≢ mark).
      let p = packed_other j (omega arith) (w j k) d in
      sym (unequal u mark mark (2 * u + b) (omega (arith, p.0, w j k)) (omega (arith, p.0, p.1))))
      (eq_or_ne x mark))

  pub table_packed : (n : ℕ) → length l ≡ n → ((j : ℕ) → j < n → IsWord (get_or l j 0)) → Packed n (indices_of l) (bits_of l)
  unfolding strays
  table_packed n e w =
      let room : n ≤ held (literals (indices_of l) (bits_of l)) = omega (arith, held_literals (indices_of l) (bits_of l), indices_long, bits_long) in
      record {
        room = room;
        clean =
            sum_none (64 * words_for n - n) (λ k. bit_of (get_or (literals (indices_of l) (bits_of l)) (n + k) 0))
            (λ k p.
            bit_at_lem (indices_of l) (bits_of l) (n + k) (omega (arith, bits_long))
            ∙ packed_bit (n + k) (omega arith)
            ∙ ap bit_of (get_or-eq_default l 0 (omega arith))
            ∙ bit_other 0 (omega arith));
        unpacks = λ j k.
            ⊎_elim
            (λ (q : get_or l j 0 ≡ mark). inr (packed_mark j (omega arith) q))
            (λ (d : get_or l j 0 ≢ mark). let f = w j k d in let p = packed_other j (omega arith) (omega arith) d in inl (omega (arith, p.0)))
            (eq_or_ne (get_or l j 0) mark);
      }

module _ (g : Graph) (is : IsOld g) where
  back : old_graph g.I g.N g.O (indices_of g.nodes) (bits_of g.nodes) (indices_of g.outputs) (bits_of g.outputs) ≡ g
  back = same_graph g.I g.N g.O (table_back g.nodes (3 * g.N) is.nodes_long is.words) (table_back g.outputs g.O is.outputs_long is.output_words)

  rule : (ls : List ℕ) → admission_number g ls ≡ old_number g ls
  unfolding admission_number old_number
  rule ls = rw ((same_rule g ls).tables is, (same_rule g ls).content is)

  admits : (ls : List ℕ) → old_number g ls ≡ 0
      → admission_number (graph_in g.I g.N g.O (indices_of g.nodes) (bits_of g.nodes) (indices_of g.outputs) (bits_of g.outputs)) ls ≡ 0
  admits ls z =
      let adm = admitted g ls (rule ls ∙ z) in
      (refused_alike g.I g.N g.O (indices_of g.nodes) (bits_of g.nodes) (indices_of g.outputs) (bits_of g.outputs)).number
      (table_packed g.nodes (3 * g.N) is.nodes_long (is_word g adm))
      (table_packed g.outputs g.O is.outputs_long (λ j l d. out_low g adm j l)) ls
      ∙ ap (λ (h : Graph). old_number h ls) back
      ∙ z

pub every_old : (g : Graph) (ls : List ℕ) → EveryOld g ls
every_old g ls = record { back = back g; admitted = λ is. admits g is ls }
