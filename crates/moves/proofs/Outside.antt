-- The other edges change only where they name a node that moves: what they save is the odd ones among those, before less after. From
-- the laws of `apply`.
use Rattle.std.proofs.Common.{◌≡◌, ℕ, ◌+◌, ◌*◌, ◌/◌, ◌%◌, ◌<◌, ◌≤◌, Bool, true, false, cond, ◌&&◌, eqb, ◌≢◌, List, [], ◌∷◌, sym, refl, ◌∙◌, ⊎_elim, arith, eq-eqb, ne_eqb}
use Rattle.graph.specs.Finite.{sum, difference}
use Rattle.graph.specs.Graph.{Graph, node, word, output, is_edge, mark}
use Rattle.graph.specs.Count.{adds, word_adds, node_adds, output_adds}
use Rattle.graph.specs.Admission.{Admitted}
use Rattle.graph.specs.Turned.{turned_by}
use Rattle.graph.proofs.Adds.{node_adds_le, output_adds_le}
use Rattle.graph.proofs.Cases.{true_or_false, eq_or_ne, cond_le, cond_not}
use Rattle.graph.proofs.Difference.{same_difference}
use Rattle.graph.proofs.Finite.{sum_same, sum_le}
use Rattle.moves.specs.Apply.{Choice, none, at, put, apply, seen}
use Rattle.moves.specs.Call.{moved, among, other_adds, split}
use Rattle.moves.specs.Outside.{outside_word, outside_output, odd_outside}
use Rattle.moves.proofs.Apply as applied
use Rattle.moves.proofs.Changed.{at_other, own_none, seen_none, node_adds_lem, out_adds}
use Rattle.moves.proofs.Count.{sum_add, clash}

-- members of a list
pub among_none : (w : ℕ) → among [] w ≡ false
unfolding among
among_none w = refl

pub among_here : (us : List ℕ) (u w : ℕ) → w ≡ u → among (u ∷ us) w ≡ true
unfolding among
among_here us u w e = rw (eq-eqb w u e)

pub among_later : (us : List ℕ) (u w : ℕ) → w ≢ u → among (u ∷ us) w ≡ among us w
unfolding among
among_later us u w e = rw (ne_eqb w u e)

-- m moves no node but those of us
abbrev pub Only : List ℕ → Choice → Type 0
Only us m = (u : ℕ) → among us u ≡ false → m u ≡ 0

-- as a list of moves at us
put_other : (us ms : List ℕ) (d : Choice) (w : ℕ) → among us w ≡ false → put d us ms w ≡ d w
unfolding put
put_other [] ms d w h = refl
put_other (u ∷ us) [] d w h = refl
put_other (u ∷ us) (k ∷ ms) d w h =
    ⊎_elim
    (λ (e : w ≡ u). absurd (clash (among_here us u w e) h))
    (λ (e : w ≢ u). put_other us ms (at d u k) w (sym (among_later us u w e) ∙ h) ∙ at_other d u k w e)
    (eq_or_ne w u)

pub put_only : (us ms : List ℕ) → Only us (put none us ms)
put_only us ms u h = put_other us ms none u h

pub none_only : (us : List ℕ) → Only us none
none_only us u h = refl

-- what a word adds, by whether it is an edge
pub word_adds_lem : (g : Graph) (j : ℕ) → node_adds g j ≡ cond (is_edge g j) (word g j % 2) 0
unfolding is_edge node_adds word_adds adds
word_adds_lem g j = sym (cond_not (eqb (j % 3) 2 && eqb (word g j) mark) (word g j % 2) 0)

output_adds_lem : (g : Graph) (j : ℕ) → output_adds g j ≡ output g j % 2
unfolding output_adds adds
output_adds_lem g j = refl

-- there are few other edges
word_le : (g : Graph) (us : List ℕ) (j : ℕ) → outside_word g us j ≤ 1
unfolding outside_word
word_le g us j =
    cond_le (among us (node g (j / 3))) 0 _ 1 (omega arith) (cond_le (among us (word g j / 2)) (node_adds g j) 0 1 (node_adds_le g j) (omega arith))

out_le : (g : Graph) (us : List ℕ) (j : ℕ) → outside_output g us j ≤ 1
unfolding outside_output
out_le g us j = cond_le (among us (output g j / 2)) (output_adds g j) 0 1 (output_adds_le g j) (omega arith)

pub outside_le : (g : Graph) → Admitted g → (us : List ℕ) → odd_outside g us ≤ 304096
unfolding odd_outside
outside_le g adm us =
    omega (arith, adm.few_nodes, adm.few_outputs, sum_le (outside_word g us) (word_le g us) (3 * g.N), sum_le (outside_output g us) (out_le g us) g.O)

crossed : (n : ℕ) (a b c d : ℕ → ℕ) → ((j : ℕ) → j < n → a j + b j ≡ c j + d j) → sum n a + sum n b ≡ sum n c + sum n d
crossed n a b c d h = sym (sum_add n a b) ∙ sum_same n (λ j. a j + b j) (λ j. c j + d j) h ∙ sum_add n c d

by_word : (t s : Bool) (x y : ℕ) → (t ≡ false → s ≡ false → x ≡ y) → cond t 0 x + cond t 0 (cond s y 0) ≡ cond t 0 y + cond t 0 (cond s x 0)
by_word true s x y h = refl
by_word false true x y h = omega arith
by_word false false x y h = omega (arith, h refl refl)

by_out : (s : Bool) (x y : ℕ) → (s ≡ false → x ≡ y) → x + cond s y 0 ≡ y + cond s x 0
by_out true x y h = omega arith
by_out false x y h = omega (arith, h refl)

module _ (g : Graph) (adm : Admitted g) (us : List ℕ) (m : Choice) (only : Only us m) where
  -- what an edge outside adds then
  pub edge_adds : (j : ℕ) → j < 3 * g.N → among us (node g (j / 3)) ≡ false → is_edge g j ≡ true → node_adds (apply g m) j ≡ (word g j + seen g m (word g j / 2)) % 2
  edge_adds j h t e = rw (node_adds_lem g m adm j h, e, own_none g m j (only _ t)) (omega arith)

  pub mark_adds : (j : ℕ) → is_edge g j ≡ false → node_adds (apply g m) j ≡ 0
  mark_adds j e = rw (word_adds_lem (apply g m) j, applied.same_edge g m adm j, e)

  -- by the wiring before
  pub word_outside : (j : ℕ) → among us (node g (j / 3)) ≡ false → outside_word (apply g m) us j ≡ cond (among us (word g j / 2)) (node_adds (apply g m) j) 0
  unfolding outside_word apply turned_by
  word_outside j t = rw (t, (applied.apply_alike g m adm).wired j)

  pub word_inside : (j : ℕ) → among us (node g (j / 3)) ≡ true → outside_word (apply g m) us j ≡ 0
  unfolding outside_word apply turned_by
  word_inside j t = rw t

  pub output_outside : (j : ℕ) → outside_output (apply g m) us j ≡ cond (among us (output g j / 2)) (output_adds (apply g m) j) 0
  unfolding outside_output
  output_outside j = rw ((applied.apply_alike g m adm).out_wired j)

  -- an edge that names no node of us stays
  quiet_word : (j : ℕ) → j < 3 * g.N → among us (node g (j / 3)) ≡ false → among us (word g j / 2) ≡ false → node_adds g j ≡ node_adds (apply g m) j
  quiet_word j h t s =
      ⊎_elim
      (λ (e : is_edge g j ≡ true). rw (word_adds_lem g j, e, edge_adds j h t e, seen_none g m (word g j / 2) (only _ s)) (omega arith))
      (λ (e : is_edge g j ≡ false). rw (word_adds_lem g j, e, mark_adds j e))
      (true_or_false (is_edge g j))

  quiet_output : (j : ℕ) → j < g.O → among us (output g j / 2) ≡ false → output_adds g j ≡ output_adds (apply g m) j
  quiet_output j h s = rw (output_adds_lem g j, out_adds g m adm j h, seen_none g m (output g j / 2) (only _ s)) (omega arith)

  word_law : (j : ℕ) → j < 3 * g.N
      → cond (among us (node g (j / 3))) 0 (node_adds g j) + outside_word (apply g m) us j ≡ cond (among us (node g (j / 3))) 0 (node_adds (apply g m) j) + outside_word g us j
  unfolding outside_word apply turned_by
  word_law j h = rw ((applied.apply_alike g m adm).wired j) (by_word (among us (node g (j / 3))) (among us (word g j / 2)) _ _ (quiet_word j h))

  output_law : (j : ℕ) → j < g.O → output_adds g j + outside_output (apply g m) us j ≡ output_adds (apply g m) j + outside_output g us j
  unfolding outside_output
  output_law j h = rw ((applied.apply_alike g m adm).out_wired j) (by_out (among us (output g j / 2)) _ _ (quiet_output j h))

  -- all other edges, by those that name a node that moves
  outside_law : other_adds g us + odd_outside (apply g m) us ≡ other_adds (apply g m) us + odd_outside g us
  unfolding other_adds odd_outside apply turned_by
  outside_law =
      omega (
        arith,
        crossed (3 * g.N) (λ j. cond (among us (node g (j / 3))) 0 (node_adds g j)) (outside_word (apply g m) us) (λ j. cond (among us (node g (j / 3))) 0 (node_adds (apply g m) j)) (outside_word g us) word_law,
        crossed g.O (output_adds g) (outside_output (apply g m) us) (output_adds (apply g m)) (outside_output g us) output_law,
      )

  pub others_are : (split us g (apply g m)).others ≡ difference (odd_outside g us) (odd_outside (apply g m) us)
  unfolding split
  others_are = same_difference (other_adds g us) (other_adds (apply g m) us) (odd_outside g us) (odd_outside (apply g m) us) outside_law

-- M-104: what moves at us save on other edges
pub moved_others : (g : Graph) → Admitted g → (us ms : List ℕ) → (split us g (moved g us ms)).others ≡ difference (odd_outside g us) (odd_outside (moved g us ms) us)
unfolding moved
moved_others g adm us ms = others_are g adm us (put none us ms) (put_only us ms)
