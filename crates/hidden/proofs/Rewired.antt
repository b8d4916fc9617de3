-- A graph with three new words at one node: its words, that it is admitted, and that a node of the same value leaves every value. From
-- the values as a fixed point.
use mathlib.Core.Path.{◌≡◌, refl, sym, ◌∙◌}
use mathlib.Core.Bool.{true, false}
use mathlib.Core.Logic.{⊎_elim, ◌≢◌}
use mathlib.Core.List.{List}
use Prim.Native.Nat.{ℕ, ◌+◌, ◌*◌, ◌/◌, ◌%◌, ◌<◌}
use native.Mathlib.Omega.{arith}
use borrow.Author.Tests.{ne_eqb}
use lib.ListN.{length, set, length-set}
use lib.Seq.{get_or-set_same, get_or-set_other}
use Rattle.graph.specs.Admission.{Admitted}
use Rattle.graph.specs.Graph.{Graph, mark, word, is_edge, is_xor}
use Rattle.graph.specs.Value.{majority, literal_value, node_value, values, value, output_value}
use Rattle.graph.proofs.Cases.{eq_or_ne}
use Rattle.graph.proofs.Fixed.{node_same, literal_same, value_zero, value_input, value_node, unique}
use Rattle.graph.proofs.Literals.{strays_same}
use Rattle.hidden.specs.Majority.{rewired}
use Rattle.hidden.specs.Keeps.{Keeps}
use Rattle.hidden.proofs.Tables.{held_below}

-- the words of other nodes are as they were
pub rewired_other : (g : Graph) (v x y z j : ℕ) → j / 3 ≢ v → word (rewired g v x y z) j ≡ word g j
unfolding rewired
rewired_other g v x y z j n =
    let l₁ : List ℕ = set g.nodes (3 * v) x in
    let l₂ : List ℕ = set l₁ (3 * v + 1) y in
    get_or-set_other l₂ (3 * v + 2) j z 0 (λ e. n (omega arith))
    ∙ get_or-set_other l₁ (3 * v + 1) j y 0 (λ e. n (omega arith))
    ∙ get_or-set_other g.nodes (3 * v) j x 0 (λ e. n (omega arith))

module _ (g : Graph) (adm : Admitted g) (v x y z : ℕ) (within : v < g.N) (no_mark : z ≢ mark)
    (bx : x / 2 < g.I + 1 + v) (bY : y / 2 < g.I + 1 + v) (bz : z / 2 < g.I + 1 + v) where
  h : Graph
  h = rewired g v x y z

  long : 3 * v + 2 < length g.nodes
  long = omega (arith, adm.long_nodes)

  first_word : word h (3 * v) ≡ x
  unfolding h rewired
  first_word =
      let l₁ : List ℕ = set g.nodes (3 * v) x in
      let l₂ : List ℕ = set l₁ (3 * v + 1) y in
      get_or-set_other l₂ (3 * v + 2) (3 * v) z 0 (omega arith)
      ∙ get_or-set_other l₁ (3 * v + 1) (3 * v) y 0 (omega arith)
      ∙ get_or-set_same g.nodes (3 * v) x 0 (omega (arith, long))

  second_word : word h (3 * v + 1) ≡ y
  unfolding h rewired
  second_word =
      let l₁ : List ℕ = set g.nodes (3 * v) x in
      let l₂ : List ℕ = set l₁ (3 * v + 1) y in
      get_or-set_other l₂ (3 * v + 2) (3 * v + 1) z 0 (omega arith)
      ∙ get_or-set_same l₁ (3 * v + 1) y 0 (simp length-set (omega (arith, long)))

  third_word : word h (3 * v + 2) ≡ z
  unfolding h rewired
  third_word = get_or-set_same (set (set g.nodes (3 * v) x) (3 * v + 1) y) (3 * v + 2) z 0 (simp length-set long)

  other_word : (j : ℕ) → j / 3 ≢ v → word h j ≡ word g j
  unfolding h
  other_word = rewired_other g v x y z

  other_edge : (j : ℕ) → j / 3 ≢ v → is_edge h j ≡ is_edge g j
  unfolding is_edge
  other_edge j n = rw (other_word j n)

  other_xor : (w : ℕ) → w ≢ v → is_xor h w ≡ is_xor g w
  unfolding is_xor
  other_xor w n = rw (other_word (3 * w + 2) (λ e. n (omega arith)))

  no_xor : is_xor h v ≡ false
  unfolding is_xor
  no_xor = rw third_word (ne_eqb z mark no_mark)

  word_below : (j : ℕ) → j / 3 ≡ v → word h j / 2 < g.I + 1 + j / 3
  word_below j e =
      ⊎_elim (λ (q : j % 3 ≡ 0). let p : j ≡ 3 * v = omega arith in rw (e, p, first_word) bx)
      (λ (n : j % 3 ≢ 0).
      ⊎_elim (λ (q : j % 3 ≡ 1). let p : j ≡ 3 * v + 1 = omega arith in rw (e, p, second_word) bY)
      (λ (m : j % 3 ≢ 1). let p : j ≡ 3 * v + 2 = omega arith in rw (e, p, third_word) bz)
      (eq_or_ne (j % 3) 1))
      (eq_or_ne (j % 3) 0)

  still_below : (j : ℕ) → j < 3 * g.N → is_edge h j ≡ true → word h j / 2 < g.I + 1 + j / 3
  still_below j l e =
      ⊎_elim (λ (q : j / 3 ≡ v). word_below j q)
      (λ (n : j / 3 ≢ v). rw (other_word j n) (adm.below j l (sym (other_edge j n) ∙ e)))
      (eq_or_ne (j / 3) v)

  still : Admitted h
  unfolding h rewired
  still =
      record {
        few_inputs = adm.few_inputs;
        few_nodes = adm.few_nodes;
        few_outputs = adm.few_outputs;
        long_nodes = simp length-set adm.long_nodes;
        long_outputs = adm.long_outputs;
        held_nodes = held_below h adm.few_inputs adm.few_nodes (simp length-set adm.long_nodes) still_below;
        held_outputs = adm.held_outputs;
        clean_nodes = strays_same (3 * g.N) h.nodes g.nodes (λ j l. other_word j (omega arith)) ∙ adm.clean_nodes;
        clean_outputs = adm.clean_outputs;
        below = still_below;
        output_below = adm.output_below;
      }

  module _ (a : ℕ → ℕ)
      (same : ((i : ℕ) → i < g.I + 1 + v → value h a i ≡ value g a i)
      → majority (literal_value (values h a g.N) x) (literal_value (values h a g.N) y) (literal_value (values h a g.N) z) ≡ value g a (g.I + 1 + v)) where
    new_node : ((i : ℕ) → i < g.I + 1 + v → value h a i ≡ value g a i) → node_value h (values h a g.N) v ≡ value g a (g.I + 1 + v)
    unfolding node_value
    new_node ih = let o : 3 * v + 0 ≡ 3 * v = omega arith in rw (no_xor, o, first_word, second_word, third_word) (same ih)

    old_node : (w : ℕ) → w < g.N → w ≢ v → ((i : ℕ) → i < g.I + 1 + w → value h a i ≡ value g a i) → node_value h (values h a g.N) w ≡ value g a (g.I + 1 + w)
    unfolding value h rewired
    old_node w l n ih =
        node_same h g (values h a g.N) (values g a g.N) w w (other_xor w n)
        (λ k b e.
        let p : (3 * w + k) / 3 ≢ v = λ q. n (omega arith) in
        rw (other_word (3 * w + k) p)
        (literal_same _ _ _ (ih (word g (3 * w + k) / 2) (omega (arith, adm.below (3 * w + k) (omega arith) (sym (other_edge (3 * w + k) p) ∙ e))))))
        ∙ sym (value_node g a adm w l)

    all_same : (i : ℕ) → i < g.I + 1 + g.N → value h a i ≡ value g a i
    unfolding h rewired
    all_same i l =
        unique h still a (value g a) (value_zero g a) (value_input g a)
        (λ w b ih.
        ⊎_elim (λ (q : w ≡ v). rw q (new_node (rw q at ih))) (λ (n : w ≢ v). old_node w b n ih) (eq_or_ne w v))
        g.N (omega arith) i l

    output_same : (j : ℕ) → j < g.O → output_value h a j ≡ output_value g a j
    unfolding output_value value h rewired
    output_same j l = literal_same _ _ _ (all_same _ (adm.output_below j l))

-- the graph with the new words, where the new node has the value of the old one wherever lower values are the same
pub rewired_keeps : (g : Graph) → Admitted g → (v x y z : ℕ) → v < g.N → z ≢ mark
    → x / 2 < g.I + 1 + v → y / 2 < g.I + 1 + v → z / 2 < g.I + 1 + v
    → ((a : ℕ → ℕ) → ((i : ℕ) → i < g.I + 1 + v → value (rewired g v x y z) a i ≡ value g a i)
    → majority (literal_value (values (rewired g v x y z) a g.N) x) (literal_value (values (rewired g v x y z) a g.N) y)
    (literal_value (values (rewired g v x y z) a g.N) z) ≡ value g a (g.I + 1 + v))
    → Keeps g (rewired g v x y z) × ((a : ℕ → ℕ) (i : ℕ) → i < g.I + 1 + g.N → value (rewired g v x y z) a i ≡ value g a i)
unfolding h rewired
rewired_keeps g adm v x y z l n bx bY bz s = (
  record {
    inputs = refl;
    outputs = refl;
    fewer = omega arith;
    admitted = still g adm v x y z l n bx bY bz;
    same = λ a. output_same g adm v x y z l n bx bY bz a (s a);
  },
  λ a. all_same g adm v x y z l n bx bY bz a (s a),
)
