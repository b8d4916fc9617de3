-- Two graphs of one wiring: the first's word, turned by a choice, is the second's just where the choice fits there. So is an output. From what a word
-- is once a choice is made, and from wiring.
use mathlib.Core.Path.{◌≡◌, refl, sym, ap, ◌∙◌}
use mathlib.Core.Bool.{Bool, true, false}
use mathlib.Core.List.{List}
use mathlib.Core.Logic.{⊎_elim}
use Prim.Native.Nat.{ℕ, ◌+◌, ◌-◌, ◌*◌, ◌/◌, ◌%◌, ◌≤◌, ◌<◌}
use native.Mathlib.Omega.{arith}
use borrow.Author.Tests.{eq-eqb, eqb-true}
use lib.Dec.{eqb}
use Rattle.graph.specs.Admission.{Admitted}
use Rattle.graph.specs.Graph.{Graph, graph_of, node, word, output, index, is_xor, is_edge, wire, output_wire, mark, turn}
use Rattle.graph.proofs.Cases.{true_or_false}
use Rattle.graph.proofs.Edge.{edge_none}
use Rattle.graph.proofs.Tests.{less, no_less}
use Rattle.graph.proofs.Turn.{turn_zero}
use Rattle.moves.specs.Apply.{Choice, apply, own, seen}
use Rattle.moves.proofs.Apply.{node_at_lem, out_at, turns_edge, turns_mark, output_turns_at, apply_alike}
use Rattle.moves.proofs.Count.{clash}
use Rattle.moves.proofs.Flags.{flag_bit}
use Rattle.compare.specs.Compare.{passing, places, word_in, wire_in, wired_to}
use Rattle.compare.specs.Telling.{wanted, wanted_out, fits, out_fits}
use Rattle.compare.proofs.Passing.{passing_each}
use Rattle.compare.proofs.Told.{fits_edge, fits_mark}

pub bool_same : (a b : Bool) → (a ≡ true → b ≡ true) → (b ≡ true → a ≡ true) → a ≡ b
bool_same true b f h = sym (f refl)
bool_same false true f h = absurd (clash (h refl) refl)
bool_same false false f h = refl

-- the words in a row
pub low_word : (k : Graph) (p : ℕ) → p < 3 * k.N → word_in k p ≡ word k p
unfolding word_in
low_word k p l = sym (less p (3 * k.N) (word k p) (output k (p - 3 * k.N)) l refl)

pub high_word : (k : Graph) (p : ℕ) → 3 * k.N ≤ p → word_in k p ≡ output k (p - 3 * k.N)
unfolding word_in
high_word k p l = sym (no_less p (3 * k.N) (word k p) (output k (p - 3 * k.N)) l refl)

pub low_wire : (k : Graph) (p : ℕ) → p < 3 * k.N → wire_in k p ≡ wire k p
unfolding wire_in
low_wire k p l = sym (less p (3 * k.N) (wire k p) (output_wire k (p - 3 * k.N)) l refl)

pub high_wire : (k : Graph) (p : ℕ) → 3 * k.N ≤ p → wire_in k p ≡ output_wire k (p - 3 * k.N)
unfolding wire_in
high_wire k p l = sym (no_less p (3 * k.N) (wire k p) (output_wire k (p - 3 * k.N)) l refl)

parity : (A B o s w : ℕ) → w % 2 ≡ (A + B) % 2 → o ≡ (w + s) % 2 → (A + (o + s)) % 2 ≡ B % 2
parity A B o s w q f = omega arith

out_parity : (A B s w : ℕ) → w % 2 ≡ (A + B) % 2 → (w + s) % 2 ≡ 0 → (A + s) % 2 ≡ B % 2
out_parity A B s w q f = omega arith

-- a literal turned by its own node and by its index, as it is to be
turned_is : (A B o s w : ℕ) → B / 2 ≡ A / 2 → w % 2 ≡ (A + B) % 2 → o ≡ (w + s) % 2 → turn (o + s) A ≡ B
unfolding turn
turned_is A B o s w e q f = rw (parity A B o s w q f) (omega arith)

turned_back : (A B o s w : ℕ) → o ≤ 1 → w % 2 ≡ (A + B) % 2 → turn (o + s) A ≡ B → o ≡ (w + s) % 2
unfolding turn
turned_back A B o s w l q f = omega arith

out_is : (A B s w : ℕ) → B / 2 ≡ A / 2 → w % 2 ≡ (A + B) % 2 → (w + s) % 2 ≡ 0 → turn s A ≡ B
unfolding turn
out_is A B s w e q f = rw (out_parity A B s w q f) (omega arith)

out_back : (A B s w : ℕ) → w % 2 ≡ (A + B) % 2 → turn s A ≡ B → (w + s) % 2 ≡ 0
unfolding turn
out_back A B s w q f = omega arith

pub own_le : (g : Graph) (m : Choice) (j : ℕ) → own g m j ≤ 1
unfolding own
own_le g m j = flag_bit (is_xor g (j / 3)) (m (node g (j / 3))) (j % 3) (omega arith)

module _ (g : Graph) (ns os : List ℕ) where
  abbrev pub second : Graph
  second = graph_of g.I g.N g.O ns os

  -- both are admitted and wired alike, and w and x say how often words and outputs are to be turned
  pub record Alike : Type 0 where
    pub admitted : Admitted g
    pub admitted_second : Admitted second
    pub wired : wired_to g second ≡ places g

  pub record Sums (w x : ℕ → ℕ) : Type 0 where
    pub words : (j : ℕ) → j < 3 * g.N → is_edge g j ≡ true → w j % 2 ≡ (word g j + word second j) % 2
    pub outs : (j : ℕ) → j < g.O → x j % 2 ≡ (output g j + output second j) % 2

  module _ (a : Alike) where
    wires_same : (p : ℕ) → p < places g → wire_in g p ≡ wire_in second p
    unfolding wired_to
    wires_same p l =
        let e : passing (places g) (λ i. eqb (wire_in g i) (wire_in second i)) ≡ places g = a.wired in
        eqb-true (wire_in g p) (wire_in second p) (passing_each (places g) (λ i. eqb (wire_in g i) (wire_in second i)) p (omega (arith, l, e)))

    node_wire : (j : ℕ) → j < 3 * g.N → wire g j ≡ wire second j
    node_wire j l = sym (low_wire g j l) ∙ wires_same j (omega arith) ∙ low_wire second j l

    edge_wire : (j : ℕ) → is_edge g j ≡ true → wire g j ≡ index (word g j)
    unfolding wire
    edge_wire j e = rw e

    second_edge : (j : ℕ) → is_edge second j ≡ true → wire second j ≡ index (word second j)
    unfolding wire
    second_edge j e = rw e

    first_mark : (j : ℕ) → is_edge g j ≡ false → wire g j ≡ mark
    unfolding wire
    first_mark j e = rw e

    second_mark : (j : ℕ) → is_edge second j ≡ false → wire second j ≡ mark
    unfolding wire
    second_mark j e = rw e

    -- an edge names the same in both, and a mark is one in both
    pub edge_same : (j : ℕ) → j < 3 * g.N → is_edge g j ≡ true → (is_edge second j ≡ true) × (word second j / 2 ≡ word g j / 2)
    edge_same j l e =
        let q : wire second j ≡ index (word g j) = sym (node_wire j l) ∙ edge_wire j e in
        ⊎_elim
        (λ (t : is_edge second j ≡ true). (t, sym (second_edge j t) ∙ q))
        (λ (t : is_edge second j ≡ false).
        absurd (omega (arith, second_mark j t, q, a.admitted.below j l e, a.admitted.few_inputs, a.admitted.few_nodes)))
        (true_or_false (is_edge second j))

    mark_same : (j : ℕ) → j < 3 * g.N → is_edge g j ≡ false → word g j ≡ word second j
    mark_same j l e =
        let q : wire second j ≡ mark = sym (node_wire j l) ∙ first_mark j e in
        ⊎_elim
        (λ (t : is_edge second j ≡ true).
        absurd (omega (arith, second_edge j t, q, a.admitted_second.below j l t, a.admitted.few_inputs, a.admitted.few_nodes)))
        (λ (t : is_edge second j ≡ false). (edge_none g j e).1 ∙ sym (edge_none second j t).1)
        (true_or_false (is_edge second j))

    pub out_same : (j : ℕ) → j < g.O → output second j / 2 ≡ output g j / 2
    unfolding output_wire
    out_same j l =
        let p : ℕ = 3 * g.N + j in
        let z : p - 3 * g.N ≡ j = omega arith in
        sym (rw z at (high_wire second p (omega arith))) ∙ sym (wires_same p (omega arith)) ∙ rw z at (high_wire g p (omega arith))

    module _ (w x : ℕ → ℕ) (s : Sums w x) (m : Choice) where
      -- with the choice m
      fits_agrees : (j : ℕ) → j < 3 * g.N → fits g w m j ≡ true → word (apply g m) j ≡ word second j
      unfolding wanted
      fits_agrees j l f =
          ⊎_elim
          (λ (e : is_edge g j ≡ true).
          node_at_lem g m a.admitted j
          ∙ ap (λ (t : ℕ). turn t (word g j)) (turns_edge g m j l e)
          ∙ turned_is (word g j) (word second j) (own g m j) (seen g m (word g j / 2)) (w j) (edge_same j l e).1 (s.words j l e) (eqb-true (own g m j) (wanted g w m j) (sym (fits_edge g w m j e) ∙ f)))
          (λ (e : is_edge g j ≡ false).
          node_at_lem g m a.admitted j ∙ ap (λ (t : ℕ). turn t (word g j)) (turns_mark g m j e) ∙ turn_zero (word g j) ∙ mark_same j l e)
          (true_or_false (is_edge g j))

      agrees_fits : (j : ℕ) → j < 3 * g.N → word (apply g m) j ≡ word second j → fits g w m j ≡ true
      unfolding wanted
      agrees_fits j l f =
          ⊎_elim
          (λ (e : is_edge g j ≡ true).
          let t : turn (own g m j + seen g m (word g j / 2)) (word g j) ≡ word second j = sym (ap (λ (y : ℕ). turn y (word g j)) (turns_edge g m j l e)) ∙ sym (node_at_lem g m a.admitted j) ∙ f in
          fits_edge g w m j e ∙ eq-eqb (own g m j) (wanted g w m j) (turned_back (word g j) (word second j) (own g m j) (seen g m (word g j / 2)) (w j) (own_le g m j) (s.words j l e) t))
          (λ (e : is_edge g j ≡ false). fits_mark g w m j e)
          (true_or_false (is_edge g j))

      outs_agree : (j : ℕ) → j < g.O → out_fits g x m j ≡ true → output (apply g m) j ≡ output second j
      unfolding out_fits wanted_out
      outs_agree j l f =
          out_at g m a.admitted j
          ∙ ap (λ (t : ℕ). turn t (output g j)) (output_turns_at g m j l)
          ∙ out_is (output g j) (output second j) (seen g m (output g j / 2)) (x j) (out_same j l) (s.outs j l) (eqb-true (wanted_out g x m j) 0 f)

      agree_outs : (j : ℕ) → j < g.O → output (apply g m) j ≡ output second j → out_fits g x m j ≡ true
      unfolding out_fits wanted_out
      agree_outs j l f =
          let t : turn (seen g m (output g j / 2)) (output g j) ≡ output second j = sym (ap (λ (y : ℕ). turn y (output g j)) (output_turns_at g m j l)) ∙ sym (out_at g m a.admitted j) ∙ f in
          eq-eqb (wanted_out g x m j) 0 (out_back (output g j) (output second j) (seen g m (output g j / 2)) (x j) (s.outs j l) t)

      same_N : (apply g m).N ≡ g.N
      same_N = (apply_alike g m a.admitted).same_N

      -- in a row: the nodes' words, and the outputs
      pub agree_low : (p : ℕ) → p < 3 * g.N → eqb (word_in (apply g m) p) (word_in second p) ≡ fits g w m p
      agree_low p l =
          let u : word_in (apply g m) p ≡ word (apply g m) p = low_word (apply g m) p (omega (arith, l, same_N)) in
          let v : word_in second p ≡ word second p = low_word second p l in
          bool_same _ _
          (λ e. agrees_fits p l (sym u ∙ eqb-true (word_in (apply g m) p) (word_in second p) e ∙ v))
          (λ e. eq-eqb (word_in (apply g m) p) (word_in second p) (u ∙ fits_agrees p l e ∙ sym v))

      pub agree_high : (j : ℕ) → j < g.O → eqb (word_in (apply g m) (3 * g.N + j)) (word_in second (3 * g.N + j)) ≡ out_fits g x m j
      agree_high j l =
          let p : ℕ = 3 * g.N + j in
          let y : p - 3 * (apply g m).N ≡ j = omega (arith, same_N) in
          let z : p - 3 * g.N ≡ j = omega arith in
          let u : word_in (apply g m) p ≡ output (apply g m) j = high_word (apply g m) p (omega (arith, same_N)) ∙ ap (output (apply g m)) y in
          let v : word_in second p ≡ output second j = high_word second p (omega arith) ∙ ap (output second) z in
          bool_same _ _
          (λ e. agree_outs j l (sym u ∙ eqb-true (word_in (apply g m) p) (word_in second p) e ∙ v))
          (λ e. eq-eqb (word_in (apply g m) p) (word_in second p) (u ∙ outs_agree j l e ∙ sym v))
