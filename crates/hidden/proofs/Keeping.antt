-- A graph of which only some nodes are kept, where whatever a kept node or an output reads is kept: it is admitted, and each kept index has its
-- old value. From the values as a fixed point.
use mathlib.Core.Path.{◌≡◌, refl, sym, ap, ◌∙◌}
use mathlib.Core.Bool.{Bool, true, false, not, and-false}
use mathlib.Core.Logic.{⊎_elim, ◌≢◌}
use mathlib.Core.List.{List}
use Prim.Native.Nat.{ℕ, suc, ◌+◌, ◌-◌, ◌*◌, ◌/◌, ◌%◌, ◌≤◌, ◌<◌}
use native.Mathlib.Omega.{arith}
use borrow.Author.Tests.{ne_eqb, eq-eqb, not-true}
use lib.Dec.{eqb}
use lib.ListN.{length, get_or, get_or-eq_default}
use Rattle.graph.specs.Admission.{Admitted}
use Rattle.graph.specs.Finite.{if_less}
use Rattle.graph.specs.Graph.{Graph, mark, word, output, is_edge, is_xor}
use Rattle.graph.specs.Literals.{bit_of, words_for}
use Rattle.graph.specs.Value.{literal_value, node_value, values, value, output_value}
use Rattle.graph.proofs.Cases.{true_or_false, lt_or_le}
use Rattle.graph.proofs.Finite.{length_tab, get_d_tab}
use Rattle.graph.proofs.Fixed.{node_same, value_zero, value_input, value_node, unique}
use Rattle.graph.proofs.Literals.{bit_other, held_all, strays_same}
use Rattle.graph.proofs.Tests.{less, no_less}
use Rattle.hidden.specs.Drop.{kept, renumbered, new_literal, new_word, new_nodes, new_outputs, keeping}
use Rattle.hidden.specs.Keeps.{Keeps}
use Rattle.graph.specs.Count.{named, output_named}
use Rattle.hidden.proofs.Bools.{true_both}
use Rattle.hidden.proofs.Kept.{rank, rank_is, rank_le, rank_strict, kept_at_lem, Stands, stands}
use Rattle.hidden.proofs.Tables.{held_below, no_stray, stray_none}

-- whatever a kept node or an output reads is kept
pub record Closed (g : Graph) (l : ℕ → Bool) : Type 0 where
  pub words : (v k : ℕ) → v < g.N → l v ≡ true → k < 3 → is_edge g (3 * v + k) ≡ true → g.I < word g (3 * v + k) / 2 → l (word g (3 * v + k) / 2 - (g.I + 1)) ≡ true
  pub outputs : (j : ℕ) → j < g.O → g.I < output g j / 2 → l (output g j / 2 - (g.I + 1)) ≡ true

module _ (g : Graph) (l : ℕ → Bool) (adm : Admitted g) (closed : Closed g l) where
  -- new indices
  low_index : (i : ℕ) → i ≤ g.I → renumbered g l i ≡ i
  unfolding renumbered
  low_index i h = sym (no_less g.I i _ i h refl)

  node_index : (i : ℕ) → g.I < i → renumbered g l i ≡ g.I + 1 + rank l (i - (g.I + 1))
  unfolding renumbered rank
  node_index i h = sym (less g.I i _ i h refl)

  -- an index that is kept, if it is a node's
  pub Stays : ℕ → Type 0
  Stays i = g.I < i → l (i - (g.I + 1)) ≡ true

  index_below : (i n : ℕ) → n ≤ g.N → i < g.I + 1 + n → (g.I < i → l (i - (g.I + 1)) ≡ true) → renumbered g l i < g.I + 1 + rank l n
  index_below i n b h s =
      ⊎_elim
      (λ (k : g.I < i). rw (node_index i k) (omega (arith, rank_strict l (i - (g.I + 1)) n (omega arith) (s k))))
      (λ (k : i ≤ g.I). rw (low_index i k) (omega arith))
      (lt_or_le g.I i)

  -- old indices
  old : ℕ → ℕ
  old i = if_less g.I i (g.I + 1 + get_or (kept l g.N) (i - (g.I + 1)) 0) i

  old_low : (i : ℕ) → i ≤ g.I → old i ≡ i
  unfolding old
  old_low i h = sym (no_less g.I i _ i h refl)

  old_node : (v : ℕ) → old (g.I + 1 + v) ≡ g.I + 1 + get_or (kept l g.N) v 0
  unfolding old
  old_node v =
      let e : g.I + 1 + v - (g.I + 1) ≡ v = omega arith in
      sym (less g.I (g.I + 1 + v) _ (g.I + 1 + v) (omega arith) refl) ∙ ap (λ (j : ℕ). g.I + 1 + get_or (kept l g.N) j 0) e

  old_new : (i : ℕ) → i < g.I + 1 + g.N → (g.I < i → l (i - (g.I + 1)) ≡ true) → old (renumbered g l i) ≡ i
  old_new i h s =
      ⊎_elim
      (λ (k : g.I < i).
      rw (node_index i k, old_node (rank l (i - (g.I + 1))), kept_at_lem l (i - (g.I + 1)) g.N (omega arith) (s k)) (omega arith))
      (λ (k : i ≤ g.I). rw (low_index i k) (old_low i k))
      (lt_or_le g.I i)

  -- literals
  literal_index : (x : ℕ) → new_literal g l x / 2 ≡ renumbered g l (x / 2)
  unfolding new_literal
  literal_index x = omega arith

  literal_bit : (x : ℕ) → new_literal g l x % 2 ≡ x % 2
  unfolding new_literal
  literal_bit x = omega arith

  literal_new : (vs ws : List ℕ) (x : ℕ) → get_or vs (x / 2) 0 ≡ get_or ws (renumbered g l (x / 2)) 0 → literal_value vs x ≡ literal_value ws (new_literal g l x)
  unfolding literal_value
  literal_new vs ws x e = rw (literal_index x, literal_bit x, e)

  h : Graph
  h = keeping g l

  n : ℕ
  n = rank l g.N

  -- the old node of the new node v
  was : ℕ → ℕ
  was v = get_or (kept l g.N) v 0

  was_is : (v : ℕ) → v < n → Stands l g.N v (was v)
  unfolding was n
  was_is v b = stands l g.N v b

  word_at : (v k : ℕ) → v < n → k < 3 → word h (3 * v + k) ≡ new_word g l (3 * was v + k)
  unfolding h keeping new_nodes was n rank
  word_at v k b c =
      let d : (3 * v + k) / 3 ≡ v = omega arith in
      let r : (3 * v + k) % 3 ≡ k = omega arith in
      get_d_tab _ _ (3 * v + k) (omega (arith, rank_le l g.N, adm.long_nodes))
      ∙ sym (less (3 * v + k) (3 * length (kept l g.N)) _ _ (omega arith) (rw (d, r)))

  new_edge : (j : ℕ) → is_edge g j ≡ true → new_word g l j ≡ new_literal g l (word g j)
  unfolding new_word
  new_edge j e = rw e

  new_mark : (j : ℕ) → is_edge g j ≡ false → new_word g l j ≡ word g j
  unfolding new_word
  new_mark j e = rw e

  module _ (v k : ℕ) (b : v < n) (c : k < 3) where
    old_below : is_edge g (3 * was v + k) ≡ true → word g (3 * was v + k) / 2 < g.I + 1 + was v
    old_below e = omega (arith, adm.below (3 * was v + k) (omega (arith, (was_is v b).within)) e)

    old_stays : is_edge g (3 * was v + k) ≡ true → g.I < word g (3 * was v + k) / 2 → l (word g (3 * was v + k) / 2 - (g.I + 1)) ≡ true
    old_stays e p = closed.words (was v) k (was_is v b).within (was_is v b).lives c e p

    new_below : is_edge g (3 * was v + k) ≡ true → renumbered g l (word g (3 * was v + k) / 2) < g.I + 1 + v
    new_below e =
        omega (arith, index_below (word g (3 * was v + k) / 2) (was v) (omega (arith, (was_is v b).within)) (old_below e) (old_stays e), (was_is v b).place)

    no_mark : is_edge g (3 * was v + k) ≡ true → new_literal g l (word g (3 * was v + k)) ≢ mark
    unfolding n
    no_mark e q = omega (arith, new_below e, literal_index (word g (3 * was v + k)), rank_le l g.N, adm.few_inputs, adm.few_nodes)

    same_edge : is_edge h (3 * v + k) ≡ is_edge g (3 * was v + k)
    unfolding is_edge
    same_edge =
        let r : (3 * v + k) % 3 ≡ (3 * was v + k) % 3 = omega arith in
        ⊎_elim
        (λ (e : is_edge g (3 * was v + k) ≡ true).
        rw (word_at v k b c, new_edge (3 * was v + k) e, ne_eqb (new_literal g l (word g (3 * was v + k))) mark (no_mark e), and-false) (sym e))
        (λ (e : is_edge g (3 * was v + k) ≡ false). rw (word_at v k b c, new_mark (3 * was v + k) e, r))
        (true_or_false (is_edge g (3 * was v + k)))

  edge_mark : (w : ℕ) → is_edge g (3 * w + 2) ≡ not (is_xor g w)
  unfolding is_edge is_xor
  edge_mark w = let r : (3 * w + 2) % 3 ≡ 2 = omega arith in rw r

  same_xor : (v : ℕ) → v < n → is_xor g (was v) ≡ is_xor h v
  unfolding is_xor
  same_xor v b =
      ⊎_elim
      (λ (e : is_edge g (3 * was v + 2) ≡ true).
      rw (word_at v 2 b (omega arith), new_edge (3 * was v + 2) e, ne_eqb (new_literal g l (word g (3 * was v + 2))) mark (no_mark v 2 b (omega arith) e))
      (not-true (is_xor g (was v)) (sym (edge_mark (was v)) ∙ e)))
      (λ (e : is_edge g (3 * was v + 2) ≡ false). rw (word_at v 2 b (omega arith), new_mark (3 * was v + 2) e))
      (true_or_false (is_edge g (3 * was v + 2)))

  output_at : (j : ℕ) → j < g.O → output h j ≡ new_literal g l (output g j)
  unfolding h keeping new_outputs
  output_at j b = get_d_tab _ _ j (omega (arith, adm.long_outputs)) ∙ sym (less j g.O _ _ b refl)

  still_below : (j : ℕ) → j < 3 * n → is_edge h j ≡ true → word h j / 2 < g.I + 1 + j / 3
  still_below j b e =
      let v : ℕ = j / 3 in
      let k : ℕ = j % 3 in
      let q : j ≡ 3 * v + k = omega arith in
      let bv : v < n = omega arith in
      let bk : k < 3 = omega arith in
      let e' : is_edge g (3 * was v + k) ≡ true = sym (same_edge v k bv bk) ∙ ap (is_edge h) (sym q) ∙ e in
      let w : word h j ≡ new_literal g l (word g (3 * was v + k)) = ap (word h) q ∙ word_at v k bv bk ∙ new_edge (3 * was v + k) e' in
      rw (w, literal_index) (new_below v k bv bk e')

  still_output : (j : ℕ) → j < g.O → output h j / 2 < g.I + 1 + n
  unfolding n
  still_output j b = rw (output_at j b, literal_index) (index_below (output g j / 2) g.N (omega arith) (adm.output_below j b) (closed.outputs j b))

  -- past the kept words stand zeros, and then what stood there
  past_nodes : (j : ℕ) → 3 * n ≤ j → j < 64 * words_for (3 * n) → bit_of (word h j) ≡ 0
  unfolding h keeping new_nodes n rank
  past_nodes j b c =
      ⊎_elim
      (λ (p : j < length g.nodes).
      ⊎_elim
      (λ (q : j < 3 * g.N). ap bit_of (get_d_tab _ _ j p ∙ sym (no_less j (3 * length (kept l g.N)) _ _ b (less j (3 * g.N) 0 _ q refl))) ∙ bit_other 0 (omega arith))
      (λ (q : 3 * g.N ≤ j).
      ap bit_of (get_d_tab _ _ j p ∙ sym (no_less j (3 * length (kept l g.N)) _ _ b (no_less j (3 * g.N) 0 _ q refl)))
      ∙ stray_none (3 * g.N) g.nodes adm.clean_nodes j q (omega (arith, rank_le l g.N)))
      (lt_or_le j (3 * g.N)))
      (λ (p : length g.nodes ≤ j). ap bit_of (get_or-eq_default (new_nodes g l) 0 {n = j} (rw length_tab p)) ∙ bit_other 0 (omega arith))
      (lt_or_le j (length g.nodes))

  past_outputs : (j : ℕ) → g.O ≤ j → output h j ≡ output g j
  unfolding h keeping new_outputs
  past_outputs j b =
      ⊎_elim
      (λ (p : j < length g.outputs). get_d_tab _ _ j p ∙ sym (no_less j g.O _ _ b refl))
      (λ (p : length g.outputs ≤ j). get_or-eq_default (new_outputs g l) 0 {n = j} (rw length_tab p) ∙ sym (get_or-eq_default g.outputs 0 {n = j} p))
      (lt_or_le j (length g.outputs))

  still : Admitted h
  unfolding h keeping new_nodes new_outputs n rank
  still =
      record {
        few_inputs = adm.few_inputs;
        few_nodes = omega (arith, rank_le l g.N, adm.few_nodes);
        few_outputs = adm.few_outputs;
        long_nodes = rw length_tab (omega (arith, rank_le l g.N, adm.long_nodes));
        long_outputs = rw length_tab adm.long_outputs;
        held_nodes = held_below h adm.few_inputs (omega (arith, rank_le l g.N, adm.few_nodes)) (rw length_tab (omega (arith, rank_le l g.N, adm.long_nodes))) still_below;
        held_outputs = held_all g.O h.outputs (rw length_tab adm.long_outputs) (λ j b. omega (arith, still_output j b, rank_le l g.N, adm.few_inputs, adm.few_nodes));
        clean_nodes = no_stray (3 * n) h.nodes past_nodes;
        clean_outputs = strays_same g.O h.outputs g.outputs past_outputs ∙ adm.clean_outputs;
        below = still_below;
        output_below = still_output;
      }

  module _ (a : ℕ → ℕ) where
    f : ℕ → ℕ
    f i = value g a (old i)

    node_step : (v : ℕ) → v < n → ((i : ℕ) → i < g.I + 1 + v → value h a i ≡ f i) → node_value h (values h a n) v ≡ f (g.I + 1 + v)
    unfolding f value h keeping n rank was
    node_step v b ih =
        sym (
        ap (value g a) (old_node v)
        ∙ value_node g a adm (was v) (was_is v b).within
        ∙ node_same g h (values g a g.N) (values h a n) (was v) v (same_xor v b)
        (λ k c e.
        let x : ℕ = word g (3 * was v + k) in
        rw (word_at v k b c, new_edge (3 * was v + k) e)
        (literal_new (values g a g.N) (values h a n) x
        (sym (ih (renumbered g l (x / 2)) (new_below v k b c e)
        ∙ ap (value g a) (old_new (x / 2) (omega (arith, old_below v k b c e, (was_is v b).within)) (old_stays v k b c e)))))))

    all_same : (i : ℕ) → i < g.I + 1 + n → value h a i ≡ f i
    unfolding h keeping n rank f
    all_same i b =
        unique h still a f (ap (value g a) (old_low 0 (omega arith)) ∙ value_zero g a)
        (λ k c. ap (value g a) (old_low (suc k) (omega arith)) ∙ value_input g a k c)
        node_step n (omega arith) i b

    output_same : (j : ℕ) → j < g.O → output_value h a j ≡ output_value g a j
    unfolding output_value value h keeping n rank f
    output_same j b =
        rw (output_at j b)
        (sym (literal_new (values g a g.N) (values h a n) (output g j)
        (sym (all_same (renumbered g l (output g j / 2)) (index_below (output g j / 2) g.N (omega arith) (adm.output_below j b) (closed.outputs j b))
        ∙ ap (value g a) (old_new (output g j / 2) (adm.output_below j b) (closed.outputs j b))))))

  pub keeping_keeps : Keeps g (keeping g l)
  unfolding h keeping n rank
  keeping_keeps =
      record {
        inputs = refl;
        outputs = refl;
        fewer = rank_le l g.N;
        admitted = still;
        same = output_same;
      }

  -- a reader of a kept node reads it still
  new_index : (v i : ℕ) → v < n → i ≡ g.I + 1 + was v → renumbered g l i ≡ g.I + 1 + v
  new_index v i b e =
      let q : i - (g.I + 1) ≡ was v = omega arith in
      rw (node_index i (omega arith), q, (was_is v b).place)

  pub reader_output : (v j : ℕ) → v < length (kept l g.N) → j < g.O → output g j / 2 ≡ g.I + 1 + get_or (kept l g.N) v 0 → output_named (keeping g l) (g.I + 1 + v) j ≡ true
  unfolding output_named was h n rank
  reader_output v j b c e = rw (output_at j c, literal_index, new_index v (output g j / 2) b e) (eq-eqb (g.I + 1 + v) (g.I + 1 + v) refl)

  was_rank : (w : ℕ) → w < g.N → l w ≡ true → was (rank l w) ≡ w
  unfolding was
  was_rank w b e = kept_at_lem l w g.N b e

  rank_below : (w : ℕ) → w < g.N → l w ≡ true → rank l w < n
  unfolding n
  rank_below w b e = rank_strict l w g.N b e

  pub reader_word : (v j : ℕ) → v < length (kept l g.N) → j < 3 * g.N → is_edge g j ≡ true → word g j / 2 ≡ g.I + 1 + get_or (kept l g.N) v 0 → l (j / 3) ≡ true
      → (3 * rank l (j / 3) + j % 3 < 3 * length (kept l g.N)) × (named (keeping g l) (g.I + 1 + v) (3 * rank l (j / 3) + j % 3) ≡ true)
  unfolding named was h n
  reader_word v j b c t e s =
      let w : ℕ = rank l (j / 3) in
      let k : ℕ = j % 3 in
      let bw : w < n = rank_below (j / 3) (omega arith) s in
      let bk : k < 3 = omega arith in
      let q : 3 * was w + k ≡ j = rw (was_rank (j / 3) (omega arith) s) (omega arith) in
      let x : word h (3 * w + k) ≡ new_literal g l (word g j) = word_at w k bw bk ∙ ap (new_word g l) q ∙ new_edge j t in
      let y : is_edge h (3 * w + k) ≡ true = same_edge w k bw bk ∙ ap (is_edge g) q ∙ t in
      (omega (arith, rank_is l g.N), true_both (is_edge h (3 * w + k)) (eqb (word h (3 * w + k) / 2) (g.I + 1 + v)) y (eq-eqb _ _ (ap (λ (z : ℕ). z / 2) x ∙ literal_index (word g j) ∙ new_index v (word g j / 2) (omega (arith, rank_is l g.N)) e)))
