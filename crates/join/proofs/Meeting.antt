-- A literal that is met, by its three cases; and the words, kinds and edges of the joined graph, which is admitted. From the laws of filled
-- tables.
use mathlib.Core.Path.{◌≡◌, refl, sym, ap, ◌∙◌}
use mathlib.Core.Bool.{true, false, and-false}
use mathlib.Core.List.{List, ◌++◌}
use mathlib.Core.Logic.{⊎_elim, ◌≢◌}
use Prim.Native.Nat.{ℕ, ◌+◌, ◌-◌, ◌*◌, ◌/◌, ◌%◌, ◌≤◌, ◌<◌}
use native.Mathlib.Omega.{arith}
use borrow.Author.Tests.{eq-eqb, ne_eqb}
use lib.Dec.{eqb}
use lib.ListN.{length, get_or, length-append, get_or-append}
use lib.Seq.{get_or-append-add}
use Rattle.graph.specs.Admission.{Admitted}
use Rattle.graph.specs.Finite.{tab}
use Rattle.graph.specs.Graph.{Graph, mark, node, word, output, turn, is_edge, is_xor}
use Rattle.graph.specs.Literals.{held, strays}
use Rattle.graph.proofs.Cases.{lt_or_le, eq_or_ne, true_or_false}
use Rattle.graph.proofs.Edge.{edge_none, third_majority, third_xor}
use Rattle.graph.proofs.Filled.{length_filled, filled_in, strays_filled, held_filled}
use Rattle.graph.proofs.Finite.{length_tab, get_d_tab}
use Rattle.graph.proofs.Tests.{less, no_less, equal, unequal}
use Rattle.graph.proofs.Turn.{turn_half}
use Rattle.join.specs.Join.{met, met_word, joined_graph}

module _ (g h : Graph) (x : ℕ) where
  pub met_constant : x / 2 ≡ 0 → met g h x ≡ x
  unfolding met
  met_constant e = sym (equal (x / 2) 0 _ _ e refl)

  pub met_input : x / 2 ≢ 0 → x / 2 ≤ h.I → met g h x ≡ turn (x % 2) (output g (x / 2 - 1))
  unfolding met
  met_input n l = sym (unequal (x / 2) 0 _ _ n (no_less h.I (x / 2) _ _ l refl))

  pub met_node : h.I < x / 2 → met g h x ≡ x + 2 * (g.I + g.N) - 2 * h.I
  unfolding met
  met_node l = sym (unequal (x / 2) 0 _ _ (λ z. omega arith) (less h.I (x / 2) _ _ l refl))

  -- a fact of what it is
  pub met_by_lem : (P : ℕ → Type 0) → (x / 2 ≡ 0 → P x) → (x / 2 ≢ 0 → x / 2 ≤ h.I → P (turn (x % 2) (output g (x / 2 - 1))))
      → (h.I < x / 2 → P (x + 2 * (g.I + g.N) - 2 * h.I)) → P (met g h x)
  met_by_lem P c i n =
      ⊎_elim
      (λ (e : x / 2 ≡ 0). rw (met_constant e) (c e))
      (λ (d : x / 2 ≢ 0).
      ⊎_elim
      (λ (l : h.I < x / 2). rw (met_node l) (n l))
      (λ (l : x / 2 ≤ h.I). rw (met_input d l) (i d l))
      (lt_or_le h.I (x / 2)))
      (eq_or_ne (x / 2) 0)

  -- the index that it names: below that of node w of the second, where x is
  pub met_below : Admitted g → g.O ≡ h.I → (w : ℕ) → x / 2 < h.I + 1 + w → met g h x / 2 < g.I + 1 + (g.N + w)
  met_below adm same w l =
      met_by_lem (λ y. y / 2 < g.I + 1 + (g.N + w))
      (λ e. omega arith)
      (λ d k.
      let b = adm.output_below (x / 2 - 1) (omega arith) in
      omega (arith, turn_half (x % 2) (output g (x / 2 - 1)), b))
      (λ k. omega arith)

-- a word that is not the mark is an edge; a third word that is, is none
is_edge_lem : (g : Graph) (j : ℕ) → eqb (word g j) mark ≡ false → is_edge g j ≡ true
unfolding is_edge
is_edge_lem g j e = rw (e, and-false)

is_mark : (g : Graph) (j : ℕ) → j % 3 ≡ 2 → word g j ≡ mark → is_edge g j ≡ false
unfolding is_edge
is_mark g j m e = rw (eq-eqb (j % 3) 2 m, eq-eqb (word g j) mark e)

-- the joined graph
module _ (g h : Graph) (ns os : List ℕ) where
  abbrev J : Graph
  J = joined_graph g h ns os

  abbrev words : List ℕ
  words = tab (3 * g.N) (word g) ++ tab (3 * h.N) (met_word g h)

  abbrev outs : List ℕ
  outs = tab h.O (λ j. met g h (output h j))

  words_length : length words ≡ 3 * (g.N + h.N)
  words_length = omega (arith, length-append (tab (3 * g.N) (word g)) (tab (3 * h.N) (met_word g h)), length_tab (3 * g.N) (word g), length_tab (3 * h.N) (met_word g h))

  pub same_I : J.I ≡ g.I
  unfolding joined_graph
  same_I = refl

  pub same_N : J.N ≡ g.N + h.N
  unfolding joined_graph
  same_N = refl

  pub same_O : J.O ≡ h.O
  unfolding joined_graph
  same_O = refl

  word_at : (j : ℕ) → j < 3 * (g.N + h.N) → word J j ≡ get_or words j 0
  unfolding joined_graph
  word_at j l = filled_in words ns j (omega (arith, words_length))

  pub first_word : (j : ℕ) → j < 3 * g.N → word J j ≡ word g j
  first_word j l =
      word_at j (omega arith)
      ∙ get_or-append (tab (3 * g.N) (word g)) (tab (3 * h.N) (met_word g h)) 0 j (omega (arith, length_tab (3 * g.N) (word g)))
      ∙ get_d_tab (3 * g.N) (word g) j l

  second_word : (j : ℕ) → j < 3 * h.N → word J (3 * g.N + j) ≡ met_word g h j
  second_word j l =
      let e = length_tab (3 * g.N) (word g) in
      word_at (3 * g.N + j) (omega arith)
      ∙ rw e at (get_or-append-add (tab (3 * g.N) (word g)) (tab (3 * h.N) (met_word g h)) j 0)
      ∙ get_d_tab (3 * h.N) (met_word g h) j l

  pub out_at : (j : ℕ) → j < h.O → output J j ≡ met g h (output h j)
  unfolding joined_graph
  out_at j l = filled_in outs os j (omega (arith, length_tab h.O (λ j. met g h (output h j)))) ∙ get_d_tab h.O (λ j. met g h (output h j)) j l

  nodes_long : 3 * (g.N + h.N) ≤ length J.nodes
  unfolding joined_graph
  nodes_long = omega (arith, length_filled words ns, words_length)

  outputs_long : h.O ≤ length J.outputs
  unfolding joined_graph
  outputs_long = omega (arith, length_filled outs os, length_tab h.O (λ j. met g h (output h j)))

  -- no bit is left past the last literal in its word
  nodes_clean : strays (3 * (g.N + h.N)) J.nodes ≡ 0
  unfolding joined_graph
  nodes_clean = strays_filled words ns (3 * (g.N + h.N)) words_length

  outputs_clean : strays h.O J.outputs ≡ 0
  unfolding joined_graph
  outputs_clean = strays_filled outs os h.O (length_tab h.O (λ j. met g h (output h j)))

  nodes_held : ((j : ℕ) → j < 3 * (g.N + h.N) → word J j < 4294967296) → 3 * (g.N + h.N) ≤ held J.nodes
  unfolding joined_graph
  nodes_held f = held_filled words ns (3 * (g.N + h.N)) words_length (λ j l. omega (arith, word_at j l, f j l))

  outputs_held : ((j : ℕ) → j < h.O → output J j < 4294967296) → h.O ≤ held J.outputs
  unfolding joined_graph
  outputs_held f =
      held_filled outs os h.O (length_tab h.O (λ j. met g h (output h j)))
      (λ j l. omega (arith, get_d_tab h.O (λ j. met g h (output h j)) j l, out_at j l, f j l))

  -- the first's nodes are as they were
  pub first_xor : (v : ℕ) → v < g.N → is_xor J v ≡ is_xor g v
  unfolding is_xor
  first_xor v l = rw (first_word (3 * v + 2) (omega arith))

  pub first_edge : (j : ℕ) → j < 3 * g.N → is_edge J j ≡ is_edge g j
  unfolding is_edge
  first_edge j l = rw (first_word j l)

  -- the second's: an edge is met, a mark stays
  pub edge_word : (j : ℕ) → j < 3 * h.N → is_edge h j ≡ true → word J (3 * g.N + j) ≡ met g h (word h j)
  unfolding met_word
  edge_word j l e = second_word j l ∙ rw e

  mark_word : (j : ℕ) → j < 3 * h.N → is_edge h j ≡ false → word J (3 * g.N + j) ≡ mark
  unfolding met_word
  mark_word j l e = second_word j l ∙ rw e

  module _ (adm : Admitted g) (below : Admitted h) (same : g.O ≡ h.I) where
    edge_below : (j : ℕ) → j < 3 * h.N → is_edge h j ≡ true → word J (3 * g.N + j) / 2 < g.I + 1 + (g.N + j / 3)
    edge_below j l e = rw (edge_word j l e) (met_below g h (word h j) adm same (j / 3) (below.below j l e))

    -- no literal is the mark
    no_mark : (j : ℕ) → j < 3 * h.N → is_edge h j ≡ true → eqb (word J (3 * g.N + j)) mark ≡ false
    no_mark j l e =
        ne_eqb (word J (3 * g.N + j)) mark
        (λ z. omega (arith, edge_below j l e, adm.few_inputs, adm.few_nodes, below.few_nodes, z))

    pub second_edge : (j : ℕ) → j < 3 * h.N → is_edge J (3 * g.N + j) ≡ is_edge h j
    second_edge j l =
        ⊎_elim
        (λ (e : is_edge h j ≡ true). is_edge_lem J (3 * g.N + j) (no_mark j l e) ∙ sym e)
        (λ (e : is_edge h j ≡ false).
        let t = edge_none h j e in
        is_mark J (3 * g.N + j) (omega arith) (mark_word j l e) ∙ sym e)
        (true_or_false (is_edge h j))

    pub second_xor : (v : ℕ) → v < h.N → is_xor J (g.N + v) ≡ is_xor h v
    unfolding is_xor
    second_xor v l =
        let q : 3 * (g.N + v) + 2 ≡ 3 * g.N + (3 * v + 2) = omega arith in
        let k : 3 * v + 2 < 3 * h.N = omega arith in
        ⊎_elim
        (λ (e : is_xor h v ≡ true). rw (q, mark_word (3 * v + 2) k (third_xor h v e)) (sym e))
        (λ (e : is_xor h v ≡ false). rw (q, no_mark (3 * v + 2) k (third_majority h v e)) (sym e))
        (true_or_false (is_xor h v))

    first_below : (j : ℕ) → j < 3 * g.N → is_edge J j ≡ true → word J j / 2 < node J (j / 3)
    first_below j k e = omega (arith, same_I, ap (λ (x : ℕ). x / 2) (first_word j k), adm.below j k (sym (first_edge j k) ∙ e))

    later_below : (j : ℕ) → 3 * g.N ≤ j → j < 3 * (g.N + h.N) → is_edge J j ≡ true → word J j / 2 < node J (j / 3)
    later_below j k o e =
        let i : ℕ = j - 3 * g.N in
        let q : j ≡ 3 * g.N + i = omega arith in
        let l : i < 3 * h.N = omega arith in
        let t : is_edge h i ≡ true = sym (second_edge i l) ∙ ap (λ (x : ℕ). is_edge J x) (sym q) ∙ e in
        omega (arith, same_I, ap (λ (x : ℕ). word J x / 2) q, edge_below i l t)

    all_below : (j : ℕ) → j < 3 * (g.N + h.N) → is_edge J j ≡ true → word J j / 2 < node J (j / 3)
    all_below j o e = ⊎_elim (λ (k : j < 3 * g.N). first_below j k e) (λ (k : 3 * g.N ≤ j). later_below j k o e) (lt_or_le j (3 * g.N))

    out_below : (j : ℕ) → j < h.O → output J j / 2 < g.I + 1 + (g.N + h.N)
    out_below j k = rw (out_at j k) (met_below g h (output h j) adm same h.N (below.output_below j k))

    -- every word has 32 bits
    fits_word : (j : ℕ) → j < 3 * (g.N + h.N) → word J j < 4294967296
    fits_word j o =
        ⊎_elim
        (λ (e : is_edge J j ≡ true). omega (arith, same_I, all_below j o e, adm.few_inputs, adm.few_nodes, below.few_nodes))
        (λ (e : is_edge J j ≡ false). omega (arith, edge_none J j e))
        (true_or_false (is_edge J j))

    pub joined_admitted : g.N + h.N ≤ 100000 → Admitted J
    joined_admitted few =
        record {
          few_inputs = rw same_I adm.few_inputs;
          few_nodes = rw same_N few;
          few_outputs = rw same_O below.few_outputs;
          long_nodes = rw same_N nodes_long;
          long_outputs = rw same_O outputs_long;
          held_nodes = rw same_N (nodes_held fits_word);
          held_outputs = rw same_O (outputs_held (λ j k. omega (arith, out_below j k, adm.few_inputs, adm.few_nodes, below.few_nodes)));
          clean_nodes = rw same_N nodes_clean;
          clean_outputs = rw same_O outputs_clean;
          below = λ j l e. all_below j (omega (arith, l, same_N)) e;
          output_below = λ j l.
              let k : j < h.O = omega (arith, l, same_O) in
              omega (arith, same_I, same_N, out_below j k);
        }
