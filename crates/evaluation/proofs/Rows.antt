-- The words so far, bit place by bit place, are the values so far: none, and one node more. From the laws on bits.
use mathlib.Core.Path.{◌≡◌, refl, sym, ap, ap₂, ◌∙◌}
use mathlib.Core.List.{List, [], ◌∷◌, ◌++◌, append-nil, append_assoc}
use Prim.Native.Nat.{ℕ, zero, suc, ◌+◌, ◌%◌, ◌≤◌, ◌<◌}
use native.Mathlib.Omega.{arith}
use native.Mathlib.Numerals.{add-one}
use native.Mathlib.Nat.{not-suc-le-zero, le_of_suc-le-suc}
use lib.ListN.{length, get_or, take, drop, set}
use lib.Seq.{take-add, take-set-le, take-suc, take-suc-set}
use Rattle.graph.specs.Finite.{tab}
use Rattle.graph.specs.Graph.{Graph, is_xor}
use Rattle.graph.specs.Literals.{bit}
use Rattle.graph.specs.Value.{values, node_value}
use Rattle.graph.proofs.Bits.{bit_le}
use Rattle.evaluation.specs.Evaluation.{assignment_at}
use Rattle.evaluation.specs.Inner.{by_index, column, nodes_of, Front}
use Rattle.evaluation.proofs.Bits.{bit_zero}

bit_mod : (j w : ℕ) → bit j w ≡ bit j w % 2
bit_mod j w = omega (arith, bit_le j w)

column_append : (j : ℕ) (xs ys : List ℕ) → column j (xs ++ ys) ≡ column j xs ++ column j ys
unfolding column
column_append j [] ys = refl
column_append j (x ∷ xs) ys = ap (λ (l : List ℕ). bit j x ∷ l) (column_append j xs ys)

column_last : (j : ℕ) (xs : List ℕ) (w : ℕ) → column j (xs ++ (w ∷ [])) ≡ column j xs ++ (bit j w ∷ [])
unfolding column
column_last j xs w = column_append j xs (w ∷ [])

column_inputs : (j i : ℕ) (words : List ℕ) → i ≤ length words → column j (take i words) ≡ tab i (λ k. bit j (get_or words k 0) % 2)
unfolding column tab
column_inputs j zero words h = refl
column_inputs j (suc i) [] h = absurd (not-suc-le-zero h)
column_inputs j (suc i) (w ∷ ws) h = ap₂ (λ (b : ℕ) (l : List ℕ). b ∷ l) (bit_mod j w) (column_inputs j i ws (le_of_suc-le-suc h))

module _ (g : Graph) (words : List ℕ) (j : ℕ) where
  pub row_none : g.I ≤ length words → column j (by_index g.I words []) ≡ values g (assignment_at words j) 0
  unfolding by_index values column assignment_at
  row_none h =
      ap₂ (λ (b : ℕ) (l : List ℕ). b ∷ l) (bit_zero j)
      (ap (column j) (append-nil (take g.I words)) ∙ column_inputs j g.I words h)

  row_snoc : (prior : List ℕ) (w : ℕ) → column j (by_index g.I words (prior ++ (w ∷ []))) ≡ column j (by_index g.I words prior) ++ (bit j w ∷ [])
  unfolding by_index column
  row_snoc prior w =
      ap (λ (l : List ℕ). bit j 0 ∷ column j l) (sym (append_assoc (take g.I words) prior (w ∷ [])))
      ∙ ap (λ (l : List ℕ). bit j 0 ∷ l) (column_append j (take g.I words ++ prior) (w ∷ []))

  pub row_more : (scratch : List ℕ) (v w : ℕ) → v < length scratch
      → column j (by_index g.I words (take v scratch)) ≡ values g (assignment_at words j) v
      → bit j w ≡ node_value g (column j (by_index g.I words (take v scratch))) v
      → column j (by_index g.I words (take (v + 1) (set scratch v w))) ≡ values g (assignment_at words j) (v + 1)
  unfolding values
  row_more scratch v w h p q =
      rw (add-one, take-suc-set)
      (row_snoc (take v scratch) w
      ∙ ap₂ (λ (l : List ℕ) (b : ℕ). l ++ (b ∷ [])) p
      (q ∙ ap (λ (l : List ℕ). node_value g l v) p))

-- words by index, before the nodes' and with them
by_index_append : (i : ℕ) (words ns : List ℕ) → by_index i words ns ≡ by_index i words [] ++ ns
unfolding by_index
by_index_append i words ns = ap (λ (l : List ℕ). 0 ∷ (l ++ ns)) (sym (append-nil (take i words)))

-- they are put at the front of a list: the constant's, and then the inputs'
pub low_none : (words s : List ℕ) → 0 < length s → take (0 + 1) (set s 0 0) ≡ by_index 0 words []
unfolding by_index
low_none words [] h = absurd (omega arith)
low_none words (x ∷ s) h = refl

pub low_more : (words t : List ℕ) (k : ℕ) → k < length words → k + 1 < length t → take (k + 1) t ≡ by_index k words [] → take (k + 1 + 1) (set t (k + 1) (get_or words k 0)) ≡ by_index (k + 1) words []
unfolding by_index
low_more words t k h l e =
    let o : k + 1 + 1 ≡ suc (k + 1) = omega arith in
    rw (o, take-suc-set)
    (ap (λ (m : List ℕ). m ++ (get_or words k 0 ∷ [])) e
    ∙ ap (λ (m : List ℕ). 0 ∷ m)
    (ap (λ (m : List ℕ). m ++ (get_or words k 0 ∷ [])) (append-nil (take k words)) ∙ sym (rw add-one (append-nil (take (suc k) words)) ∙ take-suc words k 0 h)))

-- they stand at the front of s: none of a node, one node more, and moved to the front without those before them
module _ (g : Graph) (words s : List ℕ) where
  pub front_none : g.I ≤ length words → take (g.I + 1) s ≡ by_index g.I words [] → Front g words s 0
  front_none h e =
      let o : g.I + 1 + 0 ≡ g.I + 1 = omega arith in
      record { low = e; rows = λ j k. rw (o, e) (row_none g words j h) }

  pub front_more : (v w : ℕ) → g.I + 1 + v < length s → Front g words s v → ((j : ℕ) → j < 64 → bit j w ≡ node_value g (column j (take (g.I + 1 + v) s)) v)
      → Front g words (set s (g.I + 1 + v) w) (v + 1)
  unfolding values
  front_more v w h f q =
      let o : g.I + 1 + (v + 1) ≡ suc (g.I + 1 + v) = omega arith in
      let p : suc v ≡ v + 1 = omega arith in
      record {
        low = take-set-le (g.I + 1) s (g.I + 1 + v) w (omega arith) ∙ f.low;
        rows = λ j k.
            let z : column j (take (g.I + 1 + v) s) ++ (bit j w ∷ []) ≡ values g (assignment_at words j) (suc v) =
            ap₂ (λ (l : List ℕ) (b : ℕ). l ++ (b ∷ [])) (f.rows j k) (q j k ∙ ap (λ (l : List ℕ). node_value g l v) (f.rows j k)) in
            ap (column j) (ap (λ (m : ℕ). take m (set s (g.I + 1 + v) w)) o ∙ take-suc-set s (g.I + 1 + v) w h)
            ∙ column_last j (take (g.I + 1 + v) s) w
            ∙ z
            ∙ ap (values g (assignment_at words j)) p;
      }

  pub front_moved : (v : ℕ) (t : List ℕ) → Front g words s v → take v t ≡ take v (drop (g.I + 1) s) → (j : ℕ) → j < 64 → column j (by_index g.I words (take v t)) ≡ values g (assignment_at words j) v
  front_moved v t f e j h =
      ap (column j)
      (by_index_append g.I words (take v t)
      ∙ ap₂ (λ (l m : List ℕ). l ++ m) (sym f.low) e
      ∙ sym (take-add (g.I + 1) v s))
      ∙ f.rows j h

-- values do not look at outputs
pub values_of_nodes : (g : Graph) (a : ℕ → ℕ) (n : ℕ) → values (nodes_of g.I g.N g.nodes) a n ≡ values g a n
unfolding values node_value is_xor
values_of_nodes g a zero = refl
values_of_nodes g a (suc n) = rw (values_of_nodes g a n)
