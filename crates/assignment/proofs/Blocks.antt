-- The places of a block that are left after some outputs: one output more, and none left. From the laws on bits and on values.
use mathlib.Core.Path.{◌≡◌, refl, sym, ap, ap₂, subst, ◌∙◌}
use mathlib.Core.List.{List}
use mathlib.Core.Logic.{⊎_elim, ◌≢◌}
use Prim.Native.Nat.{ℕ, zero, suc, ◌+◌, ◌-◌, ◌%◌, ◌≤◌, ◌<◌, min}
use native.Mathlib.Decide.{le_ind}
use native.Mathlib.Numerals.{add-one}
use native.Mathlib.Nat.{eq-or-lt_of_le}
use native.Mathlib.Omega.{arith}
use lib.Bits.{bit_xor}
use lib.ListN.{length, get_or, take, drop, length-drop}
use lib.Seq.{length-take-le}
use Rattle.graph.specs.Finite.{tab, first, first_of, if_less, if_equal}
use Rattle.graph.specs.Graph.{Graph, output, index}
use Rattle.graph.specs.Value.{Assignment, literal_value, values, output_value}
use Rattle.graph.proofs.Cases.{eq_or_ne, lt_or_le}
use Rattle.graph.proofs.Answers.{if_less_le}
use Rattle.graph.proofs.Tests.{less, no_less, equal, unequal, all_none, each_none}
use Rattle.graph.proofs.Values.{values_old}
use Rattle.graph.specs.Literals.{bit}
use Rattle.graph.proofs.Bits.{bit_le}
use Rattle.evaluation.specs.Evaluation.{assignment_at}
use Rattle.evaluation.specs.Inner.{by_index, literal_word, nodes_of, NodeWords, Front}
use Rattle.evaluation.proofs.Bits.{bit_ones, bit_zero, bit_turned}
use Rattle.evaluation.proofs.Index.{literal_at_lem}
use Rattle.evaluation.proofs.Rows.{front_moved, values_of_nodes}
use Rattle.assignment.specs.Assignment.{misses}
use Rattle.assignment.specs.Inner.{input_word, fits, clean, want_in, lacks, misses_in, Left, Pattern, Top, Reached, Searchable, Places}
use Rattle.assignment.proofs.Same.{first_of_same, by_place}

clean_none : clean 0 ≡ 1
unfolding clean if_equal
clean_none = refl

pub clean_one : (k : ℕ) → k ≡ 0 → clean k ≡ 1
clean_one k e = rw e clean_none

pub clean_fault : (k : ℕ) → k ≢ 0 → clean k ≡ 0
unfolding clean
clean_fault k d = sym (unequal k 0 1 0 d refl)

-- and back
pub clean_off : (k : ℕ) → clean k ≡ 0 → k ≢ 0
clean_off k e z = let d = clean_one k z in omega arith

pub clean_on : (k : ℕ) → clean k ≡ 1 → k ≡ 0
clean_on k e = ⊎_elim (λ (z : k ≡ 0). z) (λ (d : k ≢ 0). let z = clean_fault k d in absurd (omega arith)) (eq_or_ne k 0)

clean_le : (k : ℕ) → clean k ≤ 1
clean_le k = ⊎_elim (λ (z : k ≡ 0). let d = clean_one k z in omega arith) (λ (n : k ≢ 0). let d = clean_fault k n in omega arith) (eq_or_ne k 0)

clean_first : (a b : ℕ) → clean b ≤ 1 → clean (first a b) ≡ min (clean a) (clean b)
unfolding first
clean_first zero b h = let d = clean_none in omega arith
clean_first (suc a) b h = let d = clean_fault (suc a) (λ e. omega arith) in omega arith

module _ (v want : ℕ) where
  pub fits_either : want ≡ 2 → fits v want ≡ 1
  unfolding fits
  fits_either e = sym (equal want 2 1 (if_equal v want 1 0) e refl)

  fits_clean : fits v want ≡ clean (if_equal want 2 0 (if_equal v want 0 1))
  unfolding fits
  fits_clean =
      ⊎_elim
      (λ (e : want ≡ 2). sym (equal want 2 1 (if_equal v want 1 0) e refl) ∙ sym (clean_one _ (sym (equal want 2 0 (if_equal v want 0 1) e refl))))
      (λ (d : want ≢ 2).
      sym (unequal want 2 1 (if_equal v want 1 0) d refl) ∙
      ⊎_elim
      (λ (e : v ≡ want). sym (equal v want 1 0 e refl) ∙ sym (clean_one _ (sym (unequal want 2 0 (if_equal v want 0 1) d (equal v want 0 1 e refl)))))
      (λ (n : v ≢ want). sym (unequal v want 1 0 n refl) ∙ sym (clean_fault _ (λ z. let q : ◌≡◌ {A = ℕ} 1 (if_equal want 2 0 (if_equal v want 0 1)) = unequal want 2 0 (if_equal v want 0 1) d (unequal v want 0 1 n refl) in omega arith)))
      (eq_or_ne v want))
      (eq_or_ne want 2)

  pub fits_le : fits v want ≤ 1
  fits_le = rw fits_clean (clean_le _)

one_fits : (b : ℕ) → b ≤ 1 → b ≡ fits b 1
unfolding fits if_equal
one_fits zero h = refl
one_fits (suc zero) h = refl
one_fits (suc (suc b)) h = absurd (omega arith)

zero_fits : (b : ℕ) → b ≤ 1 → (b + 1) % 2 ≡ fits b 0
unfolding fits if_equal
zero_fits zero h = refl
zero_fits (suc zero) h = refl
zero_fits (suc (suc b)) h = absurd (omega arith)

-- the places of a word that are as wanted
module _ (w want j : ℕ) where
  pub fits_two : j < 64 → want ≡ 2 → bit j 18446744073709551615 ≡ fits (bit j w) want
  fits_two h e = bit_ones j h ∙ sym (fits_either (bit j w) want e)

  pub fits_one : want ≡ 1 → bit j w ≡ fits (bit j w) want
  fits_one e = rw e (one_fits (bit j w) (bit_le j w))

  pub fits_zero : j < 64 → want ≡ 0 → bit j (bit_xor w 18446744073709551615) ≡ fits (bit j w) want
  fits_zero h e = rw e (bit_turned j w 1 h (omega arith) ∙ zero_fits (bit j w) (bit_le j w))

pub left_either : (j left v want : ℕ) → want ≡ 2 → bit j left ≡ min (bit j left) (fits v want)
left_either j left v want e = let f = fits_either v want e in let l = bit_le j left in omega arith

module _ (g : Graph) (a : Assignment) where
  prefix : (m n i : ℕ) → m ≤ n → i < g.I + 1 + m → get_or (values g a n) i 0 ≡ get_or (values g a m) i 0
  prefix m n i h l = le_ind (λ (k : ℕ). get_or (values g a k) i 0 ≡ get_or (values g a m) i 0) refl (λ k q e. values_old g a k i (omega arith) ∙ e) n h

  pub known_output : (m o : ℕ) → m ≤ g.N → index (output g o) < g.I + 1 + m → literal_value (values g a m) (output g o) ≡ output_value g a o
  unfolding output_value literal_value
  known_output m o h l = ap (λ (x : ℕ). (x + output g o % 2) % 2) (sym (prefix m g.N (index (output g o)) h l))

min_clean : (l a b d : ℕ) → clean b ≤ 1 → d ≡ min (min l (clean a)) (clean b) → d ≡ min l (clean (first a b))
min_clean l a b d h e = let f = clean_first a b h in omega arith

-- one output more
pub next_rest : (ws os wanted : List ℕ) (low high j o left rest next x want : ℕ) → x ≡ get_or os o 0 → want ≡ want_in x (get_or wanted o 0) low high
    → bit j rest ≡ min (bit j left) (clean (first_of o (lacks ws os wanted low high j)))
    → bit j next ≡ min (bit j rest) (fits (bit j (literal_word ws x)) want)
    → bit j next ≡ min (bit j left) (clean (first_of (o + 1) (lacks ws os wanted low high j)))
unfolding first_of lacks
next_rest ws os wanted low high j o left rest next x want p q r t =
    let w = want_in (get_or os o 0) (get_or wanted o 0) low high in
    let u : want ≡ w = q ∙ ap (λ (y : ℕ). want_in y (get_or wanted o 0) low high) p in
    let v = bit j (literal_word ws (get_or os o 0)) in
    let s = fits_clean v w in
    let l = fits_le v w in
    let e : bit j next ≡ min (min (bit j left) (clean (first_of o (lacks ws os wanted low high j)))) (fits v w) = t ∙ ap₂ min r (ap₂ (λ (y z : ℕ). fits (bit j (literal_word ws y)) z) p u) in
    rw (add-one o) (min_clean (bit j left) (first_of o (lacks ws os wanted low high j)) _ (bit j next) (rw s at l) (e ∙ ap (min (min (bit j left) (clean (first_of o (lacks ws os wanted low high j))))) s))

-- what is wanted of a literal is a byte that is asked for, or either
pub want_le : (x want low high : ℕ) → want ≤ 2 → want_in x want low high ≤ 2
unfolding want_in
want_le x want low high h = if_less_le _ _ _ _ _ (omega arith) (if_less_le _ _ _ _ _ h (omega arith))

pub want_there : (x want low high : ℕ) → want_in x want low high ≢ 2 → index x < high
unfolding want_in
want_there x want low high d =
    ⊎_elim
    (λ (l : index x < high). l)
    (λ (l : high ≤ index x).
    absurd (d (sym (⊎_elim
    (λ (m : index x < low). less (index x) low 2 (if_less (index x) high want 2) m refl)
    (λ (m : low ≤ index x). no_less (index x) low 2 (if_less (index x) high want 2) m (no_less (index x) high want 2 l refl))
    (lt_or_le (index x) low)))))
    (lt_or_le (index x) high)

module _ (g : Graph) (wanted : List ℕ) (a : Assignment) where
  pub in_below : (low high o : ℕ) → index (output g o) < low → misses_in g wanted a low high o ≡ 0
  unfolding misses_in
  in_below low high o h = sym (less (index (output g o)) low 0 (if_less (index (output g o)) high (misses g wanted a o) 0) h refl)

  pub in_here : (low high o : ℕ) → low ≤ index (output g o) → index (output g o) < high → misses_in g wanted a low high o ≡ misses g wanted a o
  unfolding misses_in
  in_here low high o h l =
      sym (no_less (index (output g o)) low 0 (if_less (index (output g o)) high (misses g wanted a o) 0) h (less (index (output g o)) high (misses g wanted a o) 0 l refl))

  pub in_above : (low high o : ℕ) → low ≤ index (output g o) → high ≤ index (output g o) → misses_in g wanted a low high o ≡ 0
  unfolding misses_in
  in_above low high o h l =
      sym (no_less (index (output g o)) low 0 (if_less (index (output g o)) high (misses g wanted a o) 0) h (no_less (index (output g o)) high (misses g wanted a o) 0 l refl))

  -- two stretches that meet are one
  both_in : (low high n : ℕ) → low ≤ high → first_of n (misses_in g wanted a 0 low) ≡ 0 → first_of n (misses_in g wanted a low high) ≡ 0 → first_of n (misses_in g wanted a 0 high) ≡ 0
  both_in low high n h p q =
      all_none n (misses_in g wanted a 0 high)
      (λ o l.
      ⊎_elim
      (λ (k : index (output g o) < low). in_here 0 high o (omega arith) (omega arith) ∙ sym (in_here 0 low o (omega arith) k) ∙ each_none n (misses_in g wanted a 0 low) p o l)
      (λ (k : low ≤ index (output g o)).
      ⊎_elim
      (λ (m : index (output g o) < high). in_here 0 high o (omega arith) m ∙ sym (in_here low high o k m) ∙ each_none n (misses_in g wanted a low high) q o l)
      (λ (m : high ≤ index (output g o)). in_above 0 high o (omega arith) m)
      (lt_or_le (index (output g o)) high))
      (lt_or_le (index (output g o)) low))

  one_in : (low high n : ℕ) → low ≤ high → first_of n (misses_in g wanted a 0 high) ≡ 0 → (first_of n (misses_in g wanted a 0 low) ≡ 0) × (first_of n (misses_in g wanted a low high) ≡ 0)
  one_in low high n h p = (
    all_none n (misses_in g wanted a 0 low)
        (λ o l.
        ⊎_elim
        (λ (k : index (output g o) < low). in_here 0 low o (omega arith) k ∙ sym (in_here 0 high o (omega arith) (omega arith)) ∙ each_none n (misses_in g wanted a 0 high) p o l)
        (λ (k : low ≤ index (output g o)). in_above 0 low o (omega arith) k)
        (lt_or_le (index (output g o)) low)),
    all_none n (misses_in g wanted a low high)
        (λ o l.
        ⊎_elim
        (λ (k : index (output g o) < low). in_below low high o k)
        (λ (k : low ≤ index (output g o)).
        ⊎_elim
        (λ (m : index (output g o) < high). in_here low high o k m ∙ sym (in_here 0 high o (omega arith) m) ∙ each_none n (misses_in g wanted a 0 high) p o l)
        (λ (m : high ≤ index (output g o)). in_above low high o k m)
        (lt_or_le (index (output g o)) high))
        (lt_or_le (index (output g o)) low)),
  )

  pub clean_in : (low high n : ℕ) → low ≤ high → min (clean (first_of n (misses_in g wanted a 0 low))) (clean (first_of n (misses_in g wanted a low high))) ≡ clean (first_of n (misses_in g wanted a 0 high))
  clean_in low high n h =
      let x = first_of n (misses_in g wanted a 0 low) in
      let y = first_of n (misses_in g wanted a low high) in
      let z = first_of n (misses_in g wanted a 0 high) in
      ⊎_elim
      (λ (e : z ≡ 0). let t = one_in low high n h e in let p = clean_one x t.0 in let q = clean_one y t.1 in let w = clean_one z e in omega arith)
      (λ (d : z ≢ 0).
      let w = clean_fault z d in
      ⊎_elim
      (λ (e : x ≡ 0).
      ⊎_elim
      (λ (f : y ≡ 0). absurd (d (both_in low high n h e f)))
      (λ (f : y ≢ 0). let q = clean_fault y f in omega arith)
      (eq_or_ne y 0))
      (λ (e : x ≢ 0). let p = clean_fault x e in omega arith)
      (eq_or_ne x 0))
      (eq_or_ne z 0)

  -- all that is wanted is below r
  pub all_in : (r : ℕ) → Top g wanted g.O r → first_of g.O (misses_in g wanted a 0 (g.I + 1 + r)) ≡ first_of g.O (misses g wanted a)
  unfolding misses
  all_in r t =
      first_of_same g.O (misses_in g wanted a 0 (g.I + 1 + r)) (misses g wanted a)
      (λ o l.
      ⊎_elim
      (λ (k : index (output g o) < g.I + 1 + r). in_here 0 (g.I + 1 + r) o (omega arith) k)
      (λ (k : g.I + 1 + r ≤ index (output g o)).
      in_above 0 (g.I + 1 + r) o (omega arith) k ∙
      ⊎_elim
      (λ (e : get_or wanted o 0 ≡ 2). equal (get_or wanted o 0) 2 0 (if_equal (output_value g a o) (get_or wanted o 0) 0 1) e refl)
      (λ (d : get_or wanted o 0 ≢ 2). absurd (let b = t.enough o l d in omega arith))
      (eq_or_ne (get_or wanted o 0) 2))
      (lt_or_le (index (output g o)) (g.I + 1 + r)))

-- by the words of the first m nodes
module _ (g : Graph) (wanted words node_words : List ℕ) (m : ℕ) (few : m ≤ g.N) (known : NodeWords (nodes_of g.I g.N g.nodes) words node_words m) (j : ℕ) (h : j < 64) where
  abbrev a : Assignment
  a = assignment_at words j

  value_there : (o : ℕ) → index (output g o) < g.I + 1 + m → bit j (literal_word (by_index g.I words node_words) (output g o)) ≡ output_value g a o
  value_there o l =
      literal_at_lem (by_index g.I words node_words) (output g o) j h
      ∙ ap (λ (vs : List ℕ). literal_value vs (output g o)) (known j h ∙ values_of_nodes g a m)
      ∙ known_output g a m o few l

  lacks_is : (low o : ℕ) → lacks (by_index g.I words node_words) g.outputs wanted low (g.I + 1 + m) j o ≡ misses_in g wanted a low (g.I + 1 + m) o
  unfolding lacks want_in misses
  lacks_is low o =
      let x = output g o in
      let want = get_or wanted o 0 in
      let high = g.I + 1 + m in
      let v = bit j (literal_word (by_index g.I words node_words) x) in
      ⊎_elim
      (λ (k : index x < low).
      sym (equal (want_in x want low high) 2 0 (if_equal v (want_in x want low high) 0 1) (sym (less (index x) low 2 (if_less (index x) high want 2) k refl)) refl)
      ∙ sym (in_below g wanted a low high o k))
      (λ (k : low ≤ index x).
      ⊎_elim
      (λ (l : index x < high).
      let e : want_in x want low high ≡ want = sym (no_less (index x) low 2 (if_less (index x) high want 2) k (less (index x) high want 2 l refl)) in
      ap₂ (λ (w y : ℕ). if_equal w 2 0 (if_equal y w 0 1)) e (value_there o l) ∙ sym (in_here g wanted a low high o k l))
      (λ (l : high ≤ index x).
      sym (equal (want_in x want low high) 2 0 (if_equal v (want_in x want low high) 0 1) (sym (no_less (index x) low 2 (if_less (index x) high want 2) k (no_less (index x) high want 2 l refl))) refl)
      ∙ sym (in_above g wanted a low high o k l))
      (lt_or_le (index x) high))
      (lt_or_le (index x) low)

  pub lacks_all : (low n : ℕ) → first_of n (lacks (by_index g.I words node_words) g.outputs wanted low (g.I + 1 + m) j) ≡ first_of n (misses_in g wanted a low (g.I + 1 + m))
  lacks_all low n = first_of_same n _ _ (λ o l. lacks_is low o)

pub from_ones : (j : ℕ) → j < 64 → (k : ℕ) → min (bit j 18446744073709551615) (clean k) ≡ clean k
from_ones j h k = let d = bit_ones j h in let l = clean_le k in omega arith

-- what is left by the outputs that name an index below the words known: none so far, one stretch more, all that is wanted
module _ (g : Graph) (wanted words : List ℕ) where
  pub left_first : (node_words : List ℕ) (left : ℕ) → length node_words ≡ 0 → NodeWords (nodes_of g.I g.N g.nodes) words node_words 0
      → ((j : ℕ) → j < 64 → bit j left ≡ min (bit j 18446744073709551615) (clean (first_of g.O (lacks (by_index g.I words node_words) g.outputs wanted 0 (g.I + 1 + length node_words) j))))
      → Left g wanted words (g.I + 1 + 0) left
  left_first node_words left q known e j h = rw q at (e j h) ∙ from_ones j h _ ∙ ap clean (lacks_all g wanted words node_words 0 (omega arith) known j h 0 g.O)

  pub left_more : (node_words : List ℕ) (m n left next : ℕ) → length node_words ≡ n → m ≤ n → n ≤ g.N → NodeWords (nodes_of g.I g.N g.nodes) words node_words n
      → Left g wanted words (g.I + 1 + m) left
      → ((j : ℕ) → j < 64 → bit j next ≡ min (bit j left) (clean (first_of g.O (lacks (by_index g.I words node_words) g.outputs wanted (g.I + 1 + m) (g.I + 1 + length node_words) j))))
      → Left g wanted words (g.I + 1 + n) next
  left_more node_words m n left next q l few known before e j h =
      rw q at (e j h) ∙ ap₂ min (before j h) (ap clean (lacks_all g wanted words node_words n few known j h (g.I + 1 + m) g.O))
      ∙ clean_in g wanted (assignment_at words j) (g.I + 1 + m) (g.I + 1 + n) g.O (omega arith)

  -- where no place is left, none will be
  pub left_none : (i k left : ℕ) → i ≤ k → left ≡ 0 → Left g wanted words i left → Left g wanted words k 0
  left_none i k left l z before j h =
      let c = clean_in g wanted (assignment_at words j) i k g.O l in
      let e = sym (before j h) ∙ ap (bit j) z ∙ bit_zero j in
      let b = bit_zero j in
      omega arith

  -- all that is wanted is below the nodes asked for
  pub places_of : (b r top : ℕ) → words ≡ tab 16 (input_word b) → g.I ≤ 16 → Top g wanted g.O top → Left g wanted words (g.I + 1 + top) r → Places g wanted b r
  places_of b r top e few t left j h =
      left j h ∙ ap clean (all_in g wanted (assignment_at words j) top t) ∙ ap clean (by_place g wanted words b j e few h)

-- no more nodes are asked for than there are
pub few_reached : (g : Graph) (wanted : List ℕ) (o known x want next : ℕ) → Searchable g wanted → o < g.O → known ≤ g.N → x ≡ output g o
    → Reached g.I known x want next → next ≤ g.N
few_reached g wanted o known x want next r h k e f = f.needed g.N k (rw e (r.admitted.output_below o h))

pub top_more : (g : Graph) (wanted : List ℕ) (o top x next : ℕ) → Searchable g wanted → o < g.O → Top g wanted o top → x ≡ output g o
    → Reached g.I top x (get_or wanted o 0) next → Top g wanted (o + 1) next
top_more g wanted o top x next r h t e f =
    record {
      few = few_reached g wanted o top x (get_or wanted o 0) next r h t.few e f;
      enough = λ i l d.
          ⊎_elim
          (λ (q : i ≡ o). rw q (rw e at (f.enough (rw q at d))))
          (λ (k : i < o). let b = t.enough i k d in omega (arith, f.grows))
          (eq-or-lt_of_le (omega arith));
    }

pub rest_none : (j left : ℕ) → bit j left ≡ min (bit j left) (clean 0)
rest_none j left = let d = clean_none in let l = bit_le j left in omega arith

pub pattern_of : (g : Graph) (wanted : List ℕ) → Searchable g wanted → Pattern g.O g.outputs wanted
pattern_of g wanted r =
    record {
      there = r.admitted.held_outputs;
      long = r.long;
      small = r.small;
      low = λ o h. omega (arith, r.admitted.output_below o h, r.admitted.few_inputs, r.admitted.few_nodes);
    }

-- the part of a list from place a on, of n words
module _ (a n : ℕ) (xs : List ℕ) (h : a + n ≤ length xs) where
  pub part_long : length (take (a + n - a) (drop a xs)) ≡ n
  part_long = let e : a + n - a ≡ n = omega arith in rw e (length-take-le n (drop a xs) (omega (arith, length-drop a xs)))

  pub part_few : n ≤ 100000 → length (take (a + n - a) (drop a xs)) ≤ 100000
  part_few l = rw part_long l

-- where words stand at their indices, those of the nodes are the part behind those of the constant and the inputs
pub part_words : (g : Graph) (words s : List ℕ) (v : ℕ) → Front g words s v → NodeWords g words (take (g.I + 1 + v - (g.I + 1)) (drop (g.I + 1) s)) v
part_words g words s v f =
    let e : v ≡ g.I + 1 + v - (g.I + 1) = omega arith in
    subst (λ (k : ℕ). NodeWords g words (take k (drop (g.I + 1) s)) v) e (front_moved g words s v (drop (g.I + 1) s) f refl)
