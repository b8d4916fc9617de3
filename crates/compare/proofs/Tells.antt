-- A comparison tells the moves that lead from one graph to another, the only ones, or the first place that no moves explain. From the law that no choice
-- leads farther than the one that is told.
use mathlib.Core.Path.{◌≡◌, refl, sym, ap, ◌∙◌}
use mathlib.Core.List.{List, [], ◌∷◌}
use mathlib.Core.Logic.{⊎_elim}
use Prim.Native.Nat.{ℕ, suc, ◌+◌, ◌-◌, ◌*◌, ◌≤◌, ◌<◌}
use native.Mathlib.Omega.{arith}
use borrow.Author.Tests.{eq-eqb, eqb-true}
use lib.Dec.{eqb}
use lib.ListN.{length, get_or}
use Rattle.graph.specs.Admission.{Admitted}
use Rattle.graph.specs.Answer.{Answer, accepted}
use Rattle.graph.specs.Finite.{if_equal}
use Rattle.graph.specs.Graph.{Graph, node, word, output, is_edge, wire, output_wire}
use Rattle.graph.proofs.Alike.{alike_edge}
use Rattle.graph.proofs.Cases.{lt_or_le}
use Rattle.graph.proofs.Finite.{get_d_tab}
use Rattle.graph.proofs.Tests.{less, no_less, equal, unequal}
use Rattle.moves.specs.Apply.{Choice, apply}
use Rattle.moves.proofs.Apply.{apply_alike}
use Rattle.compare.specs.Compare.{places, wire_in, wired_to, led_to, leading, Compared, compared, place_told, size_apart, words_compared, graphs_compared}
use Rattle.compare.specs.Promises.{LeadsTo, Unexplained, Tells}
use Rattle.compare.specs.Telling.{told}
use Rattle.compare.proofs.Agreeing.{second, Alike, Sums, low_word, high_word, low_wire, high_wire}
use Rattle.compare.proofs.Calling.{sizes_same, sizes_told}
use Rattle.compare.proofs.Explained.{left, reached, past_wires}
use Rattle.compare.proofs.Leading.{agrees, low, farthest, chosen, list_at, list_permitted, same_agrees, led_is, best_fits, led_far, led_told, told_below}
use Rattle.compare.proofs.Passing.{passing_le, passing_each, passing_is, passing_most}

-- what an answer begins with, and the place of the row that it tells
abbrev head : Answer → ℕ
head a = get_or a.values 0 0

abbrev row : Graph → Answer → ℕ
row g a = if_equal (head a) 4 (get_or a.values 1 0) (3 * g.N + get_or a.values 1 0)

module _ (g : Graph) (k p : ℕ) where
  place_low : p < 3 * g.N → place_told g k p ≡ accepted (k ∷ p ∷ [])
  unfolding place_told
  place_low l = sym (less p (3 * g.N) (accepted (k ∷ p ∷ [])) _ l refl)

  place_high : 3 * g.N ≤ p → place_told g k p ≡ accepted (suc k ∷ (p - 3 * g.N) ∷ [])
  unfolding place_told
  place_high l = sym (no_less p (3 * g.N) _ (accepted (suc k ∷ (p - 3 * g.N) ∷ [])) l refl)

  place_head : (k ≤ head (place_told g k p)) × (head (place_told g k p) ≤ suc k)
  place_head =
      ⊎_elim
      (λ (l : p < 3 * g.N). let e : head (place_told g k p) ≡ k = ap head (place_low l) in (omega arith, omega arith))
      (λ (l : 3 * g.N ≤ p). let e : head (place_told g k p) ≡ suc k = ap head (place_high l) in (omega arith, omega arith))
      (lt_or_le p (3 * g.N))

place_row : (g : Graph) (p : ℕ) → row g (place_told g 4 p) ≡ p
place_row g p =
    ⊎_elim
    (λ (l : p < 3 * g.N). ap (row g) (place_low g 4 p l) ∙ sym (equal 4 4 p (3 * g.N + p) refl refl))
    (λ (l : 3 * g.N ≤ p).
    let q : 3 * g.N + (p - 3 * g.N) ≡ p = omega arith in
    ap (row g) (place_high g 4 p l) ∙ sym (unequal 5 4 (p - 3 * g.N) (3 * g.N + (p - 3 * g.N)) (λ z. omega arith) refl) ∙ q)
    (lt_or_le p (3 * g.N))

size_three : (g h : Graph) → g.I ≡ h.I → g.N ≡ h.N → g.O ≡ h.O → 3 ≡ size_apart g h
unfolding size_apart
size_three g h p q r = equal g.I h.I _ _ p (equal g.N h.N _ _ q (equal g.O h.O _ _ r refl))

-- what words that are the same name
word_wire : (k h : Graph) (j : ℕ) → word k j ≡ word h j → wire k j ≡ wire h j
unfolding wire is_edge
word_wire k h j e = rw e

out_wire : (k h : Graph) (j : ℕ) → output k j ≡ output h j → output_wire k j ≡ output_wire h j
unfolding output_wire
out_wire k h j e = rw e

module _ (g : Graph) (m : Choice) (adm : Admitted g) where
  made_wire : (j : ℕ) → wire (apply g m) j ≡ wire g j
  unfolding wire
  made_wire j = let a = apply_alike g m adm in rw (alike_edge g (apply g m) a j, a.wired j)

  made_out_wire : (j : ℕ) → output_wire (apply g m) j ≡ output_wire g j
  unfolding output_wire
  made_out_wire j = (apply_alike g m adm).out_wired j

module _ (g : Graph) (ns os : List ℕ) (adm : Admitted g) (ok : Admitted (second g ns os)) (bs : List ℕ) (long : g.N ≤ length bs) where
  abbrev h : Graph
  h = second g ns os

  abbrev w : ℕ → ℕ
  w j = word g j + word h j

  abbrev x : ℕ → ℕ
  x j = output g j + output h j

  sums : Sums g ns os w x
  sums = record { words = λ j l e. refl; outs = λ j l. refl }

  same_sized : graphs_compared g h bs ≡ words_compared g h bs
  same_sized = sym (sizes_told g h bs (omega (arith, size_three g h refl refl refl)))

  wired_le : wired_to g h ≤ places g
  unfolding wired_to
  wired_le = passing_le (places g) (λ p. eqb (wire_in g p) (wire_in h p))

  -- a place that names another index is told by 2 or 3
  wires_told : wired_to g h < places g → words_compared g h bs ≡ compared (place_told g 2 (wired_to g h)) bs
  unfolding words_compared
  wires_told l = sym (less (wired_to g h) (places g) (compared (place_told g 2 (wired_to g h)) bs) _ l refl)

  -- moves that lead so far
  abbrev Led : Choice → ℕ → Type 0
  Led m k = LeadsTo g h m k

  module _ (e : wired_to g h ≡ places g) where
    a : Alike g ns os
    a = record { admitted = adm; admitted_second = ok; wired = e }

    abbrev led : ℕ
    led = led_to g h (leading g h)

    led_le : led ≤ places g
    led_le = omega (arith, led_is g ns os a w x sums (leading g h), passing_le (places g) (agrees g ns os a w x sums (chosen g ns os a w x sums (leading g h))))

    is_left : words_compared g h bs ≡ left g ns os a w x sums bs
    is_left = past_wires g ns os a w x sums bs

    stopped : led < places g → left g ns os a w x sums bs ≡ compared (place_told g 4 led) bs
    stopped l = sym (less led (places g) (compared (place_told g 4 led) bs) (reached g ns os a w x sums bs) l refl)

    ended : places g ≤ led → left g ns os a w x sums bs ≡ reached g ns os a w x sums bs
    ended l = sym (no_less led (places g) (compared (place_told g 4 led) bs) (reached g ns os a w x sums bs) l refl)

    byte_is : (v : ℕ) → v < g.N → get_or (reached g ns os a w x sums bs).moves v 0 ≡ get_or (leading g h) v 0
    byte_is v l = get_d_tab (length bs) _ v (omega arith) ∙ sym (less v g.N (get_or (leading g h) v 0) (get_or bs v 0) l refl)

    abbrev best : Choice
    best = chosen g ns os a w x sums (leading g h)

    best_leads : Led best led
    best_leads =
        record {
          permitted = list_permitted g ns os a w x sums (leading g h) (best_fits g ns os a w x sums);
          words = λ p l. eqb-true _ _ (passing_each (places g) (agrees g ns os a w x sums best) p (omega (arith, l, led_is g ns os a w x sums (leading g h))));
        }

    -- a choice that leads to place k: so does the one that is told
    no_farther : (m : Choice) (k : ℕ) → k ≤ places g → Led m k → k ≤ led
    no_farther m k l d =
        let t = farthest g ns os a w x sums m d.permitted k l (λ p i. eq-eqb _ _ (d.words p i)) in
        omega (arith, led_far g ns os a w x sums, passing_most (places g) (agrees g ns os a w x sums (told g w)) k l t)

    with_moves : places g ≤ led → (m : Choice) → ((v : ℕ) → v < g.N → m (node g v) ≡ get_or (leading g h) v 0) → Led m (places g)
    with_moves l m f =
        let same : (v : ℕ) → v < g.N → m (node g v) ≡ best (node g v) = λ v i. f v i ∙ sym (list_at g ns os a w x sums (leading g h) (best_fits g ns os a w x sums) v i) in
        record {
          permitted = λ v i. rw (same v i) (best_leads.permitted v i);
          words = λ p i. eqb-true _ _ (same_agrees g ns os a w x sums m best same p i ∙ eq-eqb _ _ (best_leads.words p (omega (arith, i, l))));
        }

    only_moves : (m : Choice) → Led m (places g) → (v : ℕ) → v < g.N → m (node g v) ≡ get_or (leading g h) v 0
    only_moves m d v l =
        told_below g w adm m d.permitted g.N (omega arith)
        (λ j i. sym (low g ns os a w x sums m j i) ∙ eq-eqb _ _ (d.words j (omega arith))) v l
        ∙ sym (led_told g ns os a w x sums (sym (led_far g ns os a w x sums) ∙ omega (arith, led_le, no_farther m (places g) (omega arith) d)) v l)

  -- moves that lead to the end leave the wiring
  wire_same : (m : Choice) → Led m (places g) → (p : ℕ) → p < places g → wire_in g p ≡ wire_in h p
  wire_same m d p l =
      let same_N : (apply g m).N ≡ g.N = (apply_alike g m adm).same_N in
      ⊎_elim
      (λ (i : p < 3 * g.N).
      low_wire g p i
      ∙ sym (made_wire g m adm p)
      ∙ word_wire (apply g m) h p (sym (low_word (apply g m) p (omega (arith, i, same_N))) ∙ d.words p l ∙ low_word h p i)
      ∙ sym (low_wire h p i))
      (λ (i : 3 * g.N ≤ p).
      let j : ℕ = p - 3 * g.N in
      let q : p - 3 * (apply g m).N ≡ j = omega (arith, same_N) in
      high_wire g p i
      ∙ sym (made_out_wire g m adm j)
      ∙ out_wire (apply g m) h j (sym (ap (output (apply g m)) q) ∙ sym (high_word (apply g m) p (omega (arith, i, same_N))) ∙ d.words p l ∙ high_word h p i)
      ∙ sym (high_wire h p i))
      (lt_or_le p (3 * g.N))

  wired_by : (m : Choice) → Led m (places g) → wired_to g h ≡ places g
  unfolding wired_to
  wired_by m d =
      sym (passing_is (places g) (λ p. eqb (wire_in g p) (wire_in h p)) (places g) (omega arith) (λ p l. eq-eqb (wire_in g p) (wire_in h p) (wire_same m d p l)) (λ l. absurd (omega arith)))

  abbrev answer : Answer
  answer = (graphs_compared g h bs).answer

  told_wires : wired_to g h < places g → (2 ≤ head answer) × (head answer ≤ 3)
  told_wires l =
      let e : head answer ≡ head (place_told g 2 (wired_to g h)) = ap (λ (c : Compared). head c.answer) (same_sized ∙ wires_told l) in
      let b = place_head g 2 (wired_to g h) in
      (omega (arith, e, b.0), omega (arith, e, b.1))

  -- by the whole answer
  leads_second : answer ≡ accepted (0 ∷ 0 ∷ []) → (m : Choice) → ((v : ℕ) → v < g.N → m (node g v) ≡ get_or (graphs_compared g h bs).moves v 0) → Led m (places g)
  leads_second z m f =
      let none : head answer ≡ 0 = ap head z in
      ⊎_elim
      (λ (l : wired_to g h < places g). absurd (omega (arith, none, (told_wires l).0)))
      (λ (l : places g ≤ wired_to g h).
      let e : wired_to g h ≡ places g = omega (arith, l, wired_le) in
      ⊎_elim
      (λ (s : led e < places g).
      let q : head answer ≡ head (place_told g 4 (led e)) = ap (λ (c : Compared). head c.answer) (same_sized ∙ is_left e ∙ stopped e s) in
      absurd (omega (arith, none, q, (place_head g 4 (led e)).0)))
      (λ (s : places g ≤ led e).
      let q = same_sized ∙ is_left e ∙ ended e s in
      with_moves e s m (λ v i. f v i ∙ ap (λ (c : Compared). get_or c.moves v 0) q ∙ byte_is e v i))
      (lt_or_le (led e) (places g)))
      (lt_or_le (wired_to g h) (places g))

  only_second : (m : Choice) → Led m (places g) → (answer ≡ accepted (0 ∷ 0 ∷ [])) × ((v : ℕ) → v < g.N → m (node g v) ≡ get_or (graphs_compared g h bs).moves v 0)
  only_second m d =
      let e = wired_by m d in
      let q = same_sized ∙ is_left e ∙ ended e (no_farther e m (places g) (omega arith) d) in
      (ap (λ (c : Compared). c.answer) q, λ v l. only_moves e m d v l ∙ sym (byte_is e v l) ∙ sym (ap (λ (c : Compared). get_or c.moves v 0) q))

  unexplained_second : (p : ℕ) → answer ≡ place_told g 4 p → Unexplained g h p
  unexplained_second p z =
      let four : 4 ≤ head answer = omega (arith, ap head z, (place_head g 4 p).0) in
      ⊎_elim
      (λ (l : wired_to g h < places g). absurd (omega (arith, four, (told_wires l).1)))
      (λ (l : places g ≤ wired_to g h).
      let e : wired_to g h ≡ places g = omega (arith, l, wired_le) in
      ⊎_elim
      (λ (s : led e < places g).
      let q : place_told g 4 p ≡ place_told g 4 (led e) = sym z ∙ ap (λ (c : Compared). c.answer) (same_sized ∙ is_left e ∙ stopped e s) in
      let k : p ≡ led e = sym (place_row g p) ∙ ap (row g) q ∙ place_row g (led e) in
      rw k (record { moves = best e; before = best_leads e; none = λ m d. omega (arith, no_farther e m (suc (led e)) (omega arith) d) }))
      (λ (s : places g ≤ led e).
      let q : head answer ≡ 0 = ap (λ (c : Compared). head c.answer) (same_sized ∙ is_left e ∙ ended e s) in
      absurd (omega (arith, four, q)))
      (lt_or_le (led e) (places g)))
      (lt_or_le (wired_to g h) (places g))

  tells_second : Tells g h bs
  tells_second =
      record {
        leads = λ z m f. record { inputs = refl; nodes = refl; outputs = refl; all = leads_second z m f };
        only = λ m d. only_second m d.all;
        unexplained = unexplained_second;
      }

-- a graph of the same sizes
sized : (g h : Graph) → g.I ≡ h.I → g.N ≡ h.N → g.O ≡ h.O → second g h.nodes h.outputs ≡ h
sized g h p q r = λ t. record { I = p t; N = q t; O = r t; nodes = h.nodes; outputs = h.outputs }

module _ (g h : Graph) (adm : Admitted g) (ok : Admitted h) (bs : List ℕ) (long : g.N ≤ length bs) where
  same_sizes : g.I ≡ h.I → g.N ≡ h.N → g.O ≡ h.O → Tells g h bs
  same_sizes p q r = let e = sized g h p q r in rw e at (tells_second g h.nodes h.outputs adm (rw (sym e) at ok) bs long)

  other_sizes : size_apart g h < 3 → Tells g h bs
  unfolding graphs_compared
  other_sizes l =
      let e : head (graphs_compared g h bs).answer ≡ 1 = ap (λ (c : Compared). head c.answer) (sym (less (size_apart g h) 3 (compared (accepted (1 ∷ size_apart g h ∷ [])) bs) (words_compared g h bs) l refl)) in
      record {
        leads = λ z m f. absurd (omega (arith, e, ap head z));
        only = λ m d. absurd (omega (arith, l, size_three g h d.inputs d.nodes d.outputs));
        unexplained = λ p z. absurd (omega (arith, e, ap head z, (place_head g 4 p).0));
      }

  -- either
  pub tells : Tells g h bs
  tells =
      ⊎_elim
      (λ (l : size_apart g h < 3). other_sizes l)
      (λ (l : 3 ≤ size_apart g h). let e = sizes_same g h l in same_sizes e.0 e.1 e.2)
      (lt_or_le (size_apart g h) 3)
