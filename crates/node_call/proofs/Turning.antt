-- A move written: its own words, then its readers, are what the choice of that move turns; two moves written one after the other. From the
-- laws of a move made.
use mathlib.Core.Path.{◌≡◌, refl, sym, ap, ◌∙◌}
use mathlib.Core.Bool.{Bool, true, false}
use mathlib.Core.List.{List}
use mathlib.Core.Logic.{⊎_elim, ◌≢◌}
use Prim.Native.Nat.{ℕ, ◌+◌, ◌*◌, ◌≤◌, ◌<◌}
use native.Mathlib.Omega.{arith}
use borrow.Author.Tests.{eqb-false}
use lib.Dec.{eqb}
use lib.ListN.{get_or}
use Rattle.graph.specs.Admission.{Admitted}
use Rattle.graph.specs.Graph.{Graph, graph_of, mark, node, word, output, index, is_edge, is_xor}
use Rattle.graph.specs.Inner.{IsWord}
use Rattle.graph.specs.Literals.{held}
use Rattle.graph.specs.Turned.{turned_table, up_to, only}
use Rattle.graph.proofs.Cases.{lt_or_le, eq_or_ne, true_or_false}
use Rattle.graph.proofs.Edge.{edge_none}
use Rattle.graph.proofs.Literals.{held_le}
use Rattle.graph.proofs.Tests.{equal, unequal}
use Rattle.graph.proofs.Turn.{turn_half}
use Rattle.graph.proofs.Turned.{turned_both, turned_at, turned_held, turned_same, turned_never, turned_turned, up_to_in, up_to_past, up_to_zero, only_at, only_off}
use Rattle.moves.specs.Apply.{Choice, none, at, seen, turns, output_turns, apply}
use Rattle.moves.specs.Rows.{flag, kind_moves}
use Rattle.moves.specs.Tree.{is_root, place}
use Rattle.moves.proofs.Apply.{turns_edge, turns_mark, turns_past, output_turns_at, output_turns_past, apply_alike, admitted, same_xor}
use Rattle.moves.proofs.Made.{flag_third, mine_own, mine_mark, mine_seen, mine_elsewhere, pair_apply}
use Rattle.moves.proofs.Readers.{Single, single, names, named_by_lem}
use Rattle.node_call.specs.Write.{own_turns, read_turns, readers_after}

-- what turning a node's third word asks: only a majority's is turned
pub third_low : (x : Bool) (m w : ℕ) → x ≡ eqb w mark → IsWord w → 0 < flag x m 2 → index w < 2147483647
third_low true m w e f p = absurd (omega (arith, flag_third m))
third_low false m w e f p = f (eqb-false w mark (sym e))

-- a turned table has as many literals, and they name the same indices
pub turned_index : (l k : List ℕ) (t : ℕ → ℕ) → k ≡ turned_table l t → (j : ℕ) → j < held l → (j < held k) × (index (get_or k j 0) ≡ index (get_or l j 0))
turned_index l k t e j h =
    rw e
    (omega (arith, turned_held l t), ap index (turned_at l t j (omega (arith, held_le l))) ∙ turn_half (t j) (get_or l j 0))

-- three words turned one after the other
pub own_turned : (l a b c : List ℕ) (v : ℕ) (x : Bool) (m f g h : ℕ) → f ≡ flag x m 0 → g ≡ flag x m 1 → h ≡ flag x m 2
    → a ≡ turned_table l (only (3 * v) f) → b ≡ turned_table a (only (3 * v + 1) g) → c ≡ turned_table b (only (3 * v + 2) h) → c ≡ turned_table l (own_turns v x m)
unfolding own_turns
own_turned l a b c v x m f g h p q r d e s =
    rw (s, e, d, p, q, r)
    (ap (λ (y : List ℕ). turned_table y (only (3 * v + 2) (flag x m 2))) (turned_turned l (only (3 * v) (flag x m 0)) (only (3 * v + 1) (flag x m 1)))
    ∙ turned_turned l _ (only (3 * v + 2) (flag x m 2)))

-- no turn
pub readers_still : (n u t : ℕ) (l : List ℕ) → t ≡ 0 → l ≡ readers_after n u t l
unfolding readers_after read_turns
readers_still n u t l e = sym (turned_never l _ (λ j. up_to_zero n _ j (⊎_elim
    (λ (q : index (get_or l j 0) ≡ u). sym (equal _ u t 0 q refl) ∙ e)
    (λ (q : index (get_or l j 0) ≢ u). sym (unequal _ u t 0 q refl))
    (eq_or_ne (index (get_or l j 0)) u))))

-- both tables are those after the choice
module _ (g : Graph) (adm : Admitted g) (v m : ℕ) (l : v < g.N) where
  abbrev choice : Choice
  choice = at none (node g v) m

  abbrev t : ℕ
  t = flag (is_xor g v) m 3

  read_is : (j x y : ℕ) → index y ≡ index x → read_turns (node g v) t j y ≡ seen g choice (index x)
  unfolding read_turns
  read_is j x y e = rw e (sym (mine_seen g v m l (index x)))

  no_reader : (j : ℕ) → is_edge g j ≡ false → (y : ℕ) → index y ≡ index (word g j) → read_turns (node g v) t j y ≡ 0
  unfolding read_turns
  no_reader j e y q =
      sym (unequal (index y) (node g v) t 0 (λ z. omega (arith, z, q, (edge_none g j e).1, adm.few_inputs, adm.few_nodes)) refl)

  module _ (ns : List ℕ) (q : ns ≡ turned_table g.nodes (own_turns v (is_xor g v) m)) where
    abbrev read : ℕ → ℕ
    read = up_to (3 * g.N) (λ j. read_turns (node g v) t j (get_or ns j 0))

    turns_are : (j : ℕ) → own_turns v (is_xor g v) m j + read j ≡ turns g choice j
    unfolding own_turns
    turns_are j =
        ⊎_elim
        (λ (h : j < 3 * g.N).
        let i = (turned_index g.nodes ns (own_turns v (is_xor g v) m) q j (omega (arith, adm.held_nodes))).1 in
        ⊎_elim
        (λ (e : is_edge g j ≡ true). omega (arith, up_to_in (3 * g.N) (λ j. read_turns (node g v) t j (get_or ns j 0)) j h, read_is j (word g j) (get_or ns j 0) i, mine_own g v m j, turns_edge g choice j h e))
        (λ (e : is_edge g j ≡ false). omega (arith, up_to_in (3 * g.N) (λ j. read_turns (node g v) t j (get_or ns j 0)) j h, no_reader j e (get_or ns j 0) i, mine_mark g v m j e, turns_mark g choice j e))
        (true_or_false (is_edge g j)))
        (λ (h : 3 * g.N ≤ j). omega (arith, up_to_past (3 * g.N) (λ j. read_turns (node g v) t j (get_or ns j 0)) j h, mine_elsewhere g v m j (omega arith), turns_past g choice j h))
        (lt_or_le j (3 * g.N))

  out_turns_are : (j : ℕ) → up_to g.O (λ j. read_turns (node g v) t j (output g j)) j ≡ output_turns g choice j
  out_turns_are j =
      ⊎_elim
      (λ (h : j < g.O). up_to_in g.O (λ j. read_turns (node g v) t j (output g j)) j h ∙ read_is j (output g j) (output g j) refl ∙ sym (output_turns_at g choice j h))
      (λ (h : g.O ≤ j). up_to_past g.O (λ j. read_turns (node g v) t j (output g j)) j h ∙ sym (output_turns_past g choice j h))
      (lt_or_le j g.O)

  pub move_written : (x : Bool) (f : ℕ) (ns ks os : List ℕ) → x ≡ is_xor g v → f ≡ flag x m 3 → ns ≡ turned_table g.nodes (own_turns v x m)
      → ks ≡ readers_after (3 * g.N) (node g v) f ns → os ≡ readers_after g.O (node g v) f g.outputs → graph_of g.I g.N g.O ks os ≡ apply g choice
  unfolding apply readers_after
  move_written x f ns ks os e d p q r =
      let s : f ≡ t = d ∙ ap (λ (y : Bool). flag y m 3) e in
      let w : ns ≡ turned_table g.nodes (own_turns v (is_xor g v) m) = p ∙ ap (λ (y : Bool). turned_table g.nodes (own_turns v y m)) e in
      turned_both g (turns g choice) (output_turns g choice) ks os
      (rw s at q
      ∙ ap (λ (y : List ℕ). turned_table y (read ns w)) w
      ∙ turned_turned g.nodes (own_turns v (is_xor g v) m) (read ns w)
      ∙ turned_same g.nodes _ _ (λ j h. turns_are ns w j))
      (rw s at r ∙ turned_same g.outputs _ _ (λ j h. out_turns_are j))

  -- a node that is no root has one reader: its place is the only one that is turned
  module _ (lone : is_root g (node g v) ≡ false) where
    abbrev alone : Single g (node g v)
    alone = single g (node g v) lone

    -- among the words as they stand once its own are turned
    one_reader : (f : ℕ) (ns : List ℕ) → ns ≡ turned_table g.nodes (own_turns v (is_xor g v) m) → (j : ℕ) → only (place g (node g v)) f j ≡ up_to (3 * g.N) (λ i. read_turns (node g v) f i (get_or ns i 0)) j
    unfolding read_turns
    one_reader f ns q j =
        ⊎_elim
        (λ (b : j < 3 * g.N).
        let i : index (get_or ns j 0) ≡ index (word g j) = (turned_index g.nodes ns (own_turns v (is_xor g v) m) q j (omega (arith, adm.held_nodes))).1 in
        ⊎_elim
        (λ (e : j ≡ place g (node g v)).
        rw e (only_at (place g (node g v)) f)
        ∙ equal (index (get_or ns j 0)) (node g v) f 0 (i ∙ ap (λ (k : ℕ). index (word g k)) e ∙ (names g (node g v) (place g (node g v)) alone.at.passes).1) refl
        ∙ sym (up_to_in (3 * g.N) _ j b))
        (λ (e : j ≢ place g (node g v)).
        only_off (place g (node g v)) f j e
        ∙ unequal (index (get_or ns j 0)) (node g v) f 0 (λ z. e (other j b (sym i ∙ z))) refl
        ∙ sym (up_to_in (3 * g.N) _ j b))
        (eq_or_ne j (place g (node g v))))
        (λ (b : 3 * g.N ≤ j). only_off (place g (node g v)) f j (λ z. omega (arith, alone.at.below)) ∙ sym (up_to_past (3 * g.N) _ j b))
        (lt_or_le j (3 * g.N))
      where
        other : (j : ℕ) → j < 3 * g.N → index (word g j) ≡ node g v → j ≡ place g (node g v)
        other j b z =
            ⊎_elim
            (λ (e : is_edge g j ≡ true). alone.at.only j b (named_by_lem g (node g v) j e z))
            (λ (e : is_edge g j ≡ false). absurd (omega (arith, z, (edge_none g j e).1, adm.few_inputs, adm.few_nodes)))
            (true_or_false (is_edge g j))

    no_output : (f j : ℕ) → up_to g.O (λ i. read_turns (node g v) f i (output g i)) j ≡ 0
    unfolding read_turns
    no_output f j =
        ⊎_elim
        (λ (b : j < g.O). up_to_in g.O _ j b ∙ sym (unequal (index (output g j)) (node g v) f 0 (alone.no_out j b) refl))
        (λ (b : g.O ≤ j). up_to_past g.O _ j b)
        (lt_or_le j g.O)

    pub inner_written : (x : Bool) (f p : ℕ) (ns ks : List ℕ) → x ≡ is_xor g v → f ≡ flag x m 3 → p ≡ place g (node g v) → ns ≡ turned_table g.nodes (own_turns v x m)
        → ks ≡ turned_table ns (only p f) → graph_of g.I g.N g.O ks g.outputs ≡ apply g choice
    unfolding readers_after
    inner_written x f p ns ks e d r q s =
        move_written x f ns ks g.outputs e d q
        (s ∙ ap (λ (k : ℕ). turned_table ns (only k f)) r ∙ turned_same ns _ _ (λ j h. one_reader f ns (q ∙ ap (λ (y : Bool). turned_table g.nodes (own_turns v y m)) e) j))
        (sym (turned_never g.outputs _ (no_output f)))

-- the second of two moves
module _ (g : Graph) (adm : Admitted g) (p v k m : ℕ) (d : p ≢ v) (hk : k < kind_moves g (node g p)) (hm : m < kind_moves g (node g v)) (h : Graph) (e : h ≡ apply g (at none (node g p) k)) where
  pub second_admitted : Admitted h
  second_admitted = rw e (admitted g (at none (node g p) k) adm)

  pub second_fits : m < kind_moves h (node g v)
  unfolding kind_moves
  second_fits = rw e (rw (same_xor g (at none (node g p) k) adm, (apply_alike g (at none (node g p) k) adm).same_I) hm)

  pub pair_written : (w : Graph) → w ≡ apply h (at none (node g v) m) → w ≡ apply g (at (at none (node g p) k) (node g v) m)
  pair_written w q = q ∙ ap (λ (y : Graph). apply y (at none (node g v) m)) e ∙ pair_apply g adm p v k m d hk hm
