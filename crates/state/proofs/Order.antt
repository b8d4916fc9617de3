-- How many readers of a node are complemented once a word is turned, or all readers of a node; and that a state stays in
-- order where scratch keeps up with these counts. From the laws of turns.
use mathlib.Core.Path.{◌≡◌, refl, sym, ap, ◌∙◌}
use mathlib.Core.Bool.{Bool, true, false, cond}
use mathlib.Core.List.{List}
use mathlib.Core.Logic.{⊎_elim, ◌≢◌}
use Prim.Native.Nat.{ℕ, ◌+◌, ◌*◌, ◌/◌, ◌%◌, ◌≤◌, ◌<◌}
use native.Mathlib.Omega.{arith}
use borrow.Author.Tests.{ne_eqb, eqb-true}
use lib.Dec.{eqb}
use Rattle.graph.specs.Admission.{Admitted}
use Rattle.graph.specs.Count.{named, output_named}
use Rattle.graph.specs.Finite.{sum}
use Rattle.graph.specs.Graph.{Graph, node, word, output, is_edge, is_xor}
use Rattle.graph.specs.Turned.{turned_by, only, never}
use Rattle.graph.proofs.Alike.{alike_edge, alike_named, alike_out_named, alike_readers}
use Rattle.graph.proofs.Cases.{eq_or_ne}
use Rattle.graph.proofs.Edge.{third_xor}
use Rattle.graph.proofs.Finite.{sum_same, sum_but_one, sum_le}
use Rattle.graph.proofs.Turn.{turn_bit}
use Rattle.graph.proofs.Turned.{Sparing, by_word, by_out, by_alike, only_at, only_off, only_sparing}
use Rattle.moves.specs.Cost.{shown}
use Rattle.moves.proofs.Count.{clash}
use Rattle.moves.proofs.Readers.{names}
use Rattle.moves.proofs.Shown.{shown_both}
use Rattle.state.specs.State.{field, bit_in, stands, Ordered}
use Rattle.state.specs.Step.{word_turned, read_turns, output_read_turns, readers_turned, TreesKept}
use Rattle.state.proofs.Alike.{alike_linked}
use Rattle.state.proofs.Turned.{read_turns_at, output_read_turns_at, readers_sparing}
use Rattle.state.proofs.Stands.{itself, kept_at_lem, stands_alike, stands_admitted, BitTurned, stands_word_turned, Flipped, stands_readers_turned}

cond_le : (b : Bool) (x : ℕ) → x ≤ 1 → cond b x 0 ≤ 1
cond_le true x h = h
cond_le false x h = omega arith

pub shown_le : (g : Graph) (u f : ℕ) → shown g u f ≤ 3 * g.N + g.O
unfolding shown
shown_le g u f =
    omega (
      arith,
      sum_le (λ j. cond (named g u j) ((word g j + f) % 2) 0) (λ j. cond_le (named g u j) _ (omega arith)) (3 * g.N),
      sum_le (λ j. cond (output_named g u j) ((output g j + f) % 2) 0) (λ j. cond_le (output_named g u j) _ (omega arith)) g.O,
    )

-- the words that name u, each turned so often
module _ (h : Graph) (t o : ℕ → ℕ) (adm : Admitted h) (s : Sparing h t o) (u : ℕ) where
  pub shown_by : shown (turned_by h t o) u 0 ≡ sum (3 * h.N) (λ j. cond (named h u j) ((word h j + t j) % 2) 0) + sum h.O (λ j. cond (output_named h u j) ((output h j + o j) % 2) 0)
  unfolding shown turned_by
  shown_by = split ∙ (λ i. nodes_are i + outputs_are i)
    where
      k : Graph
      k = turned_by h t o

      split : shown (turned_by h t o) u 0 ≡ sum (3 * h.N) (λ j. cond (named k u j) ((word k j + 0) % 2) 0) + sum h.O (λ j. cond (output_named k u j) ((output k j + 0) % 2) 0)
      split = refl

      nodes_are : sum (3 * h.N) (λ j. cond (named k u j) ((word k j + 0) % 2) 0) ≡ sum (3 * h.N) (λ j. cond (named h u j) ((word h j + t j) % 2) 0)
      nodes_are = sum_same (3 * h.N) _ _ (λ j l. let e : (word k j + 0) % 2 ≡ (word h j + t j) % 2 = omega (arith, ap (λ x. x % 2) (by_word h t o adm s j), turn_bit (t j) (word h j)) in rw (alike_named h k (by_alike h t o adm s) u j, e))

      outputs_are : sum h.O (λ j. cond (output_named k u j) ((output k j + 0) % 2) 0) ≡ sum h.O (λ j. cond (output_named h u j) ((output h j + o j) % 2) 0)
      outputs_are = sum_same h.O _ _ (λ j l. let e : (output k j + 0) % 2 ≡ (output h j + o j) % 2 = omega (arith, ap (λ x. x % 2) (by_out h t o adm s j), turn_bit (o j) (output h j)) in rw (alike_out_named h k (by_alike h t o adm s) u j, e))

-- one word turned
module _ (h : Graph) (adm : Admitted h) (j f : ℕ) (l : j < 3 * h.N) (e : is_edge h j ≡ false → f ≡ 0) (u : ℕ) where
  pub shown_word : shown (word_turned h j f) u 0 + cond (named h u j) ((word h j + 0) % 2) 0 ≡ shown h u 0 + cond (named h u j) ((word h j + f) % 2) 0
  unfolding shown
  shown_word =
      let a = shown_by h (only j f) never adm (only_sparing h j f l e) u in
      let b =
      sum_but_one (3 * h.N) (λ i. cond (named h u i) ((word h i + only j f i) % 2) 0) (λ i. cond (named h u i) ((word h i + 0) % 2) 0) j l
      (λ i p q. rw (only_off j f i q)) in
      omega (arith, a, b, ap (λ x. cond (named h u j) ((word h j + x) % 2) 0) (only_at j f))

-- all readers of u turned
module _ (h : Graph) (adm : Admitted h) (u : ℕ) where
  pub shown_here : shown (readers_turned h u 1) u 0 ≡ shown h u 1
  unfolding shown
  shown_here =
      let ns =
      sum_same (3 * h.N) (λ j. cond (named h u j) ((word h j + read_turns h u 1 j) % 2) 0) (λ j. cond (named h u j) ((word h j + 1) % 2) 0)
      (λ j l. rw (read_turns_at h u 1 j l) (both (named h u j) (word h j))) in
      let os =
      sum_same h.O (λ j. cond (output_named h u j) ((output h j + output_read_turns h u 1 j) % 2) 0) (λ j. cond (output_named h u j) ((output h j + 1) % 2) 0)
      (λ j l. rw (output_read_turns_at h u 1 j l) (both (output_named h u j) (output h j))) in
      omega (arith, shown_by h (read_turns h u 1) (output_read_turns h u 1) adm (readers_sparing h u 1) u, ns, os)
    where
      both : (b : Bool) (x : ℕ) → cond b ((x + cond b 1 0) % 2) 0 ≡ cond b ((x + 1) % 2) 0
      both true x = refl
      both false x = refl

  module _ (w : ℕ) (d : w ≢ u) where
    apart : (a b : Bool) (x : ℕ) → (a ≡ true → b ≡ false) → cond a ((x + cond b 1 0) % 2) 0 ≡ cond a ((x + 0) % 2) 0
    apart true true x h = absurd (clash refl (h refl))
    apart true false x h = refl
    apart false b x h = refl

    other : (x : ℕ) → x ≡ w → eqb x u ≡ false
    other x e = ne_eqb x u (λ z. d (sym e ∙ z))

    named_apart : (j : ℕ) → named h w j ≡ true → named h u j ≡ false
    unfolding named
    named_apart j e = let n = names h w j e in rw n.0 (other (word h j / 2) n.1)

    output_named_apart : (j : ℕ) → output_named h w j ≡ true → output_named h u j ≡ false
    unfolding output_named
    output_named_apart j e = other (output h j / 2) (eqb-true _ _ e)

    pub shown_other : shown (readers_turned h u 1) w 0 ≡ shown h w 0
    unfolding shown
    shown_other =
        let ns =
        sum_same (3 * h.N) (λ j. cond (named h w j) ((word h j + read_turns h u 1 j) % 2) 0) (λ j. cond (named h w j) ((word h j + 0) % 2) 0)
        (λ j l. rw (read_turns_at h u 1 j l) (apart (named h w j) (named h u j) (word h j) (named_apart j))) in
        let os =
        sum_same h.O (λ j. cond (output_named h w j) ((output h j + output_read_turns h u 1 j) % 2) 0) (λ j. cond (output_named h w j) ((output h j + 0) % 2) 0)
        (λ j l. rw (output_read_turns_at h u 1 j l) (apart (output_named h w j) (output_named h u j) (output h j) (output_named_apart j))) in
        omega (arith, shown_by h (read_turns h u 1) (output_read_turns h u 1) adm (readers_sparing h u 1) w, ns, os)

-- the state stays in order
module _ (g : Graph) (sc : List ℕ) (o : Ordered g sc) where
  ordered_by : (sc' : List ℕ) → TreesKept sc sc' → ((v : ℕ) → v < g.N → field sc' v 1 ≡ shown (stands g sc') (node g v) 0) → ((v : ℕ) → v < g.N → is_xor g v ≡ true → bit_in sc' v 3 ≡ bit_in sc v 3)
      → Ordered g sc'
  ordered_by sc' k odd third =
      record {
        admitted = o.admitted;
        long = rw k.long o.long;
        reads = λ v l. k.others v 0 (omega arith) (omega arith) (omega arith) ∙ o.reads v l;
        odd = odd;
        marks = λ v l x. third v l x ∙ o.marks v l x;
        placed = λ v l. k.others v 3 (omega arith) (omega arith) (omega arith) ∙ o.placed v l;
        linked = alike_linked g g (itself g) sc sc' k o.linked;
      }

  -- the counts of the nodes, all of them few
  pub odd_le : (v : ℕ) → v < g.N → field sc v 1 ≤ 304096
  unfolding stands turned_by
  odd_le v l = omega (arith, o.odd v l, shown_le (stands g sc) (node g v) 0, o.admitted.few_nodes, o.admitted.few_outputs)

  pub odd_reads : (v : ℕ) → v < g.N → field sc v 1 ≤ field sc v 0
  odd_reads v l = omega (arith, o.odd v l, o.reads v l, shown_both (stands g sc) (node g v), alike_readers g (stands g sc) (stands_alike g sc o.admitted) (node g v))

  -- a word turned
  module _ (j : ℕ) (l : j < 3 * g.N) (e : is_edge g j ≡ true) (sc' : List ℕ) (k : TreesKept sc sc') (b : BitTurned sc sc' j 1)
      (counts : (v : ℕ) → v < g.N → field sc' v 1 + cond (named g (node g v) j) (word (stands g sc) j % 2) 0 ≡ field sc v 1 + cond (named g (node g v) j) ((word (stands g sc) j + 1) % 2) 0) where
    edge : {A : Type 0} → is_edge g j ≡ false → A
    edge z = absurd (clash e z)

    odd_word : (v : ℕ) → v < g.N → field sc' v 1 ≡ shown (word_turned (stands g sc) j 1) (node g v) 0
    odd_word v p =
        let a = stands_alike g sc o.admitted in
        let n : named (stands g sc) (node g v) j ≡ named g (node g v) j = alike_named g (stands g sc) a (node g v) j in
        let z : (word (stands g sc) j + 0) % 2 ≡ word (stands g sc) j % 2 = omega arith in
        let s = shown_word (stands g sc) (stands_admitted g sc o.admitted) j 1 (rw a.same_N l) (λ q. edge (sym (alike_edge g (stands g sc) a j) ∙ q)) (node g v) in
        omega (arith, counts v p, o.odd v p, rw (n, z) at s)

    third_kept : (v : ℕ) → v < g.N → is_xor g v ≡ true → bit_in sc' v 3 ≡ bit_in sc v 3
    third_kept v p x =
        sym (kept_at_lem sc' v 2 (omega arith)) ∙ b.elsewhere (3 * v + 2) (λ z. clash e (ap (is_edge g) (sym z) ∙ third_xor g v x)) ∙ kept_at_lem sc v 2 (omega arith)

    pub ordered_word : Ordered g sc'
    ordered_word =
        ordered_by sc' k
        (λ v p. odd_word v p ∙ ap (λ x. shown x (node g v) 0) (sym (stands_word_turned g j 1 l e sc sc' b)))
        third_kept

  -- all readers of a node turned
  module _ (v : ℕ) (l : v < g.N) (sc' : List ℕ) (k : TreesKept sc sc') (flip : Flipped sc sc' v 1)
      (here : field sc' v 1 + field sc v 1 ≡ field sc v 0) (elsewhere : (w : ℕ) → w ≢ v → field sc' w 1 ≡ field sc w 1) where
    odd_readers : (w : ℕ) → w < g.N → field sc' w 1 ≡ shown (readers_turned (stands g sc) (node g v) 1) (node g w) 0
    odd_readers w p =
        let m = stands_admitted g sc o.admitted in
        ⊎_elim
        (λ (e : w ≡ v).
        rw (e, shown_here (stands g sc) m (node g v))
        (omega (arith, here, o.odd v l, o.reads v l, shown_both (stands g sc) (node g v), alike_readers g (stands g sc) (stands_alike g sc o.admitted) (node g v))))
        (λ (e : w ≢ v). rw (shown_other (stands g sc) m (node g v) (node g w) (λ z. e (omega arith)), elsewhere w e) (o.odd w p))
        (eq_or_ne w v)

    pub ordered_readers : Ordered g sc'
    ordered_readers =
        ordered_by sc' k
        (λ w p. odd_readers w p ∙ ap (λ x. shown x (node g w) 0) (sym (stands_readers_turned g o.admitted v 1 l sc sc' flip)))
        (λ w p x. sym (kept_at_lem sc' w 2 (omega arith)) ∙ flip.words (3 * w + 2) ∙ kept_at_lem sc w 2 (omega arith))
