-- The graph that tables and scratch stand for: it differs from the tables in complement bits alone; a kept bit turned in scratch turns its
-- word; and all readers of a node are turned by the node's pending bit. From the laws of turns.
use mathlib.Core.Path.{◌≡◌, refl, sym, ap, ◌∙◌}
use mathlib.Core.Bool.{true, false, cond}
use mathlib.Core.List.{List}
use mathlib.Core.Logic.{⊎_elim, ◌≢◌}
use Prim.Native.Nat.{ℕ, ◌+◌, ◌-◌, ◌*◌, ◌/◌, ◌%◌, ◌≤◌, ◌<◌}
use native.Mathlib.Omega.{arith}
use borrow.Author.Tests.{eq-eqb, ne_eqb}
use Rattle.graph.specs.Admission.{Admitted}
use Rattle.graph.specs.Count.{output_named}
use Rattle.graph.specs.Finite.{if_equal}
use Rattle.graph.specs.Graph.{Graph, node, word, output, is_edge}
use Rattle.graph.specs.Literals.{bit}
use Rattle.graph.specs.Turned.{turned_by, up_to, only, never}
use Rattle.graph.proofs.Alike.{Alike, alike_admitted}
use Rattle.graph.proofs.Cases.{lt_or_le, eq_or_ne, true_or_false}
use Rattle.graph.proofs.Tests.{less, no_less}
use Rattle.graph.proofs.Turn.{turn_bit}
use Rattle.graph.proofs.Turned.{Sparing, by_word, by_alike, by_by, by_same, up_to_in, up_to_past, up_to_zero, up_to_adds, only_at, only_off, only_sparing}
use Rattle.moves.proofs.Tally.{names_by}
use Rattle.state.specs.State.{field, bit_in, kept_bit, pending_at, due_in, due, output_due, stands}
use Rattle.state.specs.Step.{word_turned, read_turns, output_read_turns, readers_turned}
use Rattle.state.proofs.Turned.{read_turns_at, read_turns_alike, output_read_turns_alike, readers_sparing}

module _ (i n : ℕ) (sc : List ℕ) where
  -- an index that is no node's has nothing pending
  pub pending_low : (u : ℕ) → u ≤ i → pending_at i n sc u ≡ 0
  unfolding pending_at
  pending_low u h = sym (no_less i u _ 0 h refl)

  pub pending_high : (u : ℕ) → i + 1 + n ≤ u → pending_at i n sc u ≡ 0
  unfolding pending_at
  pending_high u h = sym (less i u _ 0 (omega arith) (no_less u (i + 1 + n) _ 0 h refl))

  pub pending_node : (u : ℕ) → i < u → u < i + 1 + n → pending_at i n sc u ≡ bit_in sc (u - (i + 1)) 0
  unfolding pending_at
  pending_node u h l = sym (less i u _ 0 h (less u (i + 1 + n) _ 0 l refl))

-- the bit that is kept for word k + 1 of node v
pub kept_at_lem : (sc : List ℕ) (v k : ℕ) → k < 3 → kept_bit sc (3 * v + k) ≡ bit_in sc v (1 + k)
kept_at_lem sc v k h =
    let p : (3 * v + k) / 3 ≡ v = omega arith in
    let q : (3 * v + k) % 3 ≡ k = omega arith in
    rw (p, q)

-- what is pending, by the pending bits alone
pub pending_by : (i n : ℕ) (sc sc' : List ℕ) → ((v : ℕ) → bit_in sc' v 0 ≡ bit_in sc v 0) → (u : ℕ) → pending_at i n sc' u ≡ pending_at i n sc u
unfolding pending_at
pending_by i n sc sc' same u = rw (same (u - (i + 1)))

-- how often a word is due to be turned
abbrev edge_due : Graph → List ℕ → ℕ → ℕ
edge_due g sc j = word g j + kept_bit sc j + due_in g.I g.N sc g.nodes j

module _ (g : Graph) (sc : List ℕ) where
  pub due_edge : (j : ℕ) → j < 3 * g.N → is_edge g j ≡ true → due g sc j ≡ word g j + kept_bit sc j + due_in g.I g.N sc g.nodes j
  unfolding due
  due_edge j h e = up_to_in (3 * g.N) (λ i. cond (is_edge g i) (edge_due g sc i) 0) j h ∙ rw e

  pub due_mark : (j : ℕ) → is_edge g j ≡ false → due g sc j ≡ 0
  unfolding due
  due_mark j e = up_to_zero (3 * g.N) (λ i. cond (is_edge g i) (edge_due g sc i) 0) j (rw e)

  pub due_past : (j : ℕ) → 3 * g.N ≤ j → due g sc j ≡ 0
  unfolding due
  due_past j h = up_to_past (3 * g.N) (λ i. cond (is_edge g i) (edge_due g sc i) 0) j h

  due_by : (sc' : List ℕ) (j : ℕ) → kept_bit sc' j ≡ kept_bit sc j → pending_at g.I g.N sc' (word g j / 2) ≡ pending_at g.I g.N sc (word g j / 2) → due g sc' j ≡ due g sc j
  unfolding due up_to
  due_by sc' j p q = rw (p, q)

  output_due_by : (sc' : List ℕ) (j : ℕ) → pending_at g.I g.N sc' (output g j / 2) ≡ pending_at g.I g.N sc (output g j / 2) → output_due g sc' j ≡ output_due g sc j
  unfolding output_due up_to
  output_due_by sc' j q = rw q

module _ (g : Graph) (sc : List ℕ) (adm : Admitted g) where
  due_sparing : Sparing g (due g sc) (output_due g sc)
  unfolding output_due
  due_sparing = record { past = due_past g sc; at_mark = due_mark g sc; out_past = up_to_past g.O _ }

  pub stands_alike : Alike g (stands g sc)
  unfolding stands
  stands_alike = by_alike g (due g sc) (output_due g sc) adm due_sparing

  pub stands_admitted : Admitted (stands g sc)
  stands_admitted = alike_admitted g (stands g sc) stands_alike adm

  -- the bit that an edge shows
  pub stands_bit : (j : ℕ) → j < 3 * g.N → is_edge g j ≡ true → word (stands g sc) j % 2 ≡ (kept_bit sc j + due_in g.I g.N sc g.nodes j) % 2
  unfolding stands
  stands_bit j h e =
      ap (λ x. x % 2) (by_word g (due g sc) (output_due g sc) adm due_sparing j) ∙ turn_bit (due g sc j) (word g j) ∙ rw (due_edge g sc j h e) (omega arith)

  pub stands_index : (j : ℕ) → word (stands g sc) j / 2 ≡ word g j / 2
  stands_index = stands_alike.wired

pub itself : (g : Graph) → Alike g g
itself g = record { same_I = refl; same_N = refl; same_O = refl; same_nodes = refl; same_outputs = refl; wired = λ j. refl; out_wired = λ j. refl; marked = λ j. refl; past = λ j l. refl; out_past = λ j l. refl }

-- where each word is due to be turned t j times more, and each output o j times, the graph is turned so
pub stands_turned : (g : Graph) (sc sc' : List ℕ) (t o : ℕ → ℕ) → ((j : ℕ) → due g sc' j % 2 ≡ (due g sc j + t j) % 2) → ((j : ℕ) → output_due g sc' j % 2 ≡ (output_due g sc j + o j) % 2)
    → stands g sc' ≡ turned_by (stands g sc) t o
unfolding stands
stands_turned g sc sc' t o p q =
    by_same g (due g sc') (output_due g sc') (λ i. due g sc i + t i) (λ i. output_due g sc i + o i) p q ∙ sym (by_by g (due g sc) (output_due g sc) t o)

pub stands_same : (g : Graph) (sc sc' : List ℕ) → ((v : ℕ) → field sc' v 2 ≡ field sc v 2) → stands g sc' ≡ stands g sc
unfolding stands
stands_same g sc sc' same = by_same g (due g sc') (output_due g sc') (due g sc) (output_due g sc) (λ j. ap (λ x. x % 2) (node_due j)) (λ j. ap (λ x. x % 2) (output_due_lem j))
  where
    pending_same : (u : ℕ) → pending_at g.I g.N sc' u ≡ pending_at g.I g.N sc u
    pending_same u = pending_by g.I g.N sc sc' (λ v. ap (bit 0) (same v)) u

    node_due : (j : ℕ) → due g sc' j ≡ due g sc j
    node_due j = due_by g sc sc' j (ap (bit (1 + j % 3)) (same (j / 3))) (pending_same (word g j / 2))

    output_due_lem : (j : ℕ) → output_due g sc' j ≡ output_due g sc j
    output_due_lem j = output_due_by g sc sc' j (pending_same (output g j / 2))

-- the kept bit of word j turned
pub record BitTurned (sc sc' : List ℕ) (j f : ℕ) : Type 0 where
  pub here : kept_bit sc' j ≡ (kept_bit sc j + f) % 2
  pub elsewhere : (i : ℕ) → i ≢ j → kept_bit sc' i ≡ kept_bit sc i
  pub pending : (v : ℕ) → bit_in sc' v 0 ≡ bit_in sc v 0

module _ (g : Graph) (j f : ℕ) (h : j < 3 * g.N) (e : is_edge g j ≡ true) (sc sc' : List ℕ) (b : BitTurned sc sc' j f) where
  pending_kept : (u : ℕ) → pending_at g.I g.N sc' u ≡ pending_at g.I g.N sc u
  pending_kept = pending_by g.I g.N sc sc' b.pending

  due_word : (i : ℕ) → due g sc' i % 2 ≡ (due g sc i + only j f i) % 2
  due_word i =
      ⊎_elim
      (λ (q : i ≡ j). rw (q, only_at j f, due_edge g sc' j h e, due_edge g sc j h e, b.here, pending_kept (word g j / 2)) (omega arith))
      (λ (q : i ≢ j). rw (only_off j f i q, due_by g sc sc' i (b.elsewhere i q) (pending_kept (word g i / 2))) (omega arith))
      (eq_or_ne i j)

  pub stands_word_turned : stands g sc' ≡ word_turned (stands g sc) j f
  stands_word_turned =
      stands_turned g sc sc' (only j f) never due_word (λ i. rw (output_due_by g sc sc' i (pending_kept (output g i / 2))) (omega arith))

-- the pending bit of node v turned
pub record Flipped (sc sc' : List ℕ) (v f : ℕ) : Type 0 where
  pub here : bit_in sc' v 0 ≡ (bit_in sc v 0 + f) % 2
  pub elsewhere : (w : ℕ) → w ≢ v → bit_in sc' w 0 ≡ bit_in sc w 0
  pub words : (j : ℕ) → kept_bit sc' j ≡ kept_bit sc j

module _ (g : Graph) (adm : Admitted g) (v f : ℕ) (h : v < g.N) (sc sc' : List ℕ) (flip : Flipped sc sc' v f) where
  pending_flipped : (u : ℕ) → pending_at g.I g.N sc' u % 2 ≡ (pending_at g.I g.N sc u + if_equal u (node g v) f 0) % 2
  unfolding if_equal
  pending_flipped u =
      ⊎_elim
      (λ (p : g.I < u).
      ⊎_elim
      (λ (q : u < node g g.N).
      rw (pending_node g.I g.N sc u p q, pending_node g.I g.N sc' u p q)
      (⊎_elim
      (λ (e : u ≡ node g v).
      let w : u - (g.I + 1) ≡ v = omega arith in
      rw (eq-eqb u (node g v) e, w, flip.here) (omega arith))
      (λ (e : u ≢ node g v).
      rw (ne_eqb u (node g v) e, flip.elsewhere (u - (g.I + 1)) (λ z. e (omega arith))) (omega arith))
      (eq_or_ne u (node g v))))
      (λ (q : node g g.N ≤ u). rw (pending_high g.I g.N sc u q, pending_high g.I g.N sc' u q, ne_eqb u (node g v) (λ z. omega arith)))
      (lt_or_le u (node g g.N)))
      (λ (p : u ≤ g.I). rw (pending_low g.I g.N sc u p, pending_low g.I g.N sc' u p, ne_eqb u (node g v) (λ z. omega arith)))
      (lt_or_le g.I u)

  -- at an edge, where it is due as much as before but for what is pending
  edge_flipped : (j : ℕ) → j < 3 * g.N → is_edge g j ≡ true → due g sc' j % 2 ≡ (due g sc j + read_turns g (node g v) f j) % 2
  edge_flipped j l e =
      rw (
        due_edge g sc' j l e,
        due_edge g sc j l e,
        read_turns_at g (node g v) f j l,
        names_by g (node g v) (omega (arith, adm.few_inputs, adm.few_nodes)) j f 0,
        flip.words j,
      )
      (omega (arith, pending_flipped (word g j / 2)))

  due_flipped : (j : ℕ) → due g sc' j % 2 ≡ (due g sc j + read_turns g (node g v) f j) % 2
  due_flipped j =
      ⊎_elim
      (λ (l : j < 3 * g.N).
      ⊎_elim (edge_flipped j l) (λ (e : is_edge g j ≡ false). rw (due_mark g sc' j e, due_mark g sc j e, (readers_sparing g (node g v) f).at_mark j e)) (true_or_false (is_edge g j)))
      (λ (l : 3 * g.N ≤ j). rw (due_past g sc' j l, due_past g sc j l, (readers_sparing g (node g v) f).past j l))
      (lt_or_le j (3 * g.N))

  output_due_flipped : (j : ℕ) → output_due g sc' j % 2 ≡ (output_due g sc j + output_read_turns g (node g v) f j) % 2
  unfolding output_due output_read_turns output_named if_equal
  output_due_flipped j = up_to_adds g.O _ _ _ j (pending_flipped (output g j / 2))

  pub stands_readers_turned : stands g sc' ≡ readers_turned (stands g sc) (node g v) f
  stands_readers_turned =
      let k : Graph = stands g sc in
      let u : ℕ = node g v in
      stands_turned g sc sc' (read_turns k u f) (output_read_turns k u f)
      (λ i. rw (read_turns_alike g k (stands_alike g sc adm) u f i) (due_flipped i))
      (λ i. rw (output_read_turns_alike g k (stands_alike g sc adm) u f i) (output_due_flipped i))

-- a word turned leaves the wiring
pub word_alike : (g : Graph) → Admitted g → (j f : ℕ) → j < 3 * g.N → (is_edge g j ≡ false → f ≡ 0) → Alike g (word_turned g j f)
word_alike g adm j f h e = by_alike g (only j f) never adm (only_sparing g j f h e)
