-- One more move, at a node that a choice leaves alone: what it changes is the node's own words and its readers, so C follows
-- the numbers of the node. From what one changed move changes, and the sums.
use Rattle.std.proofs.Common.{◌≡◌, ℕ, zero, suc, ◌+◌, ◌*◌, ◌/◌, ◌%◌, ◌<◌, ◌≤◌, Bool, true, false, cond, eqb, ◌≢◌, List, [], ◌∷◌, get_or, sym, refl, ◌∙◌, ⊎_elim, arith, eq-eqb, ne_eqb, eqb-true}
use mathlib.Core.Path.{fun_ext}
use borrow.Author.Tests.{eqb-false}
use Rattle.graph.specs.Admission.{Admitted}
use Rattle.graph.specs.Count.{node_adds, output_adds, C, named, output_named, readers}
use Rattle.graph.specs.Finite.{sum}
use Rattle.graph.specs.Graph.{Graph, is_edge, is_xor, node, word, output}
use Rattle.graph.specs.Turned.{turned_by}
use Rattle.moves.specs.Apply.{Choice, apply, at}
use Rattle.moves.specs.Cost.{shown}
use Rattle.moves.specs.Decide.{cost_by, cost_with}
use Rattle.moves.specs.Rows.{flag}
use Rattle.graph.proofs.Cases.{true_or_false, eq_or_ne}
use Rattle.graph.proofs.Finite.{sum_same}
use Rattle.moves.proofs.Count.{clash, sum_add, sum_but_node}
use Rattle.moves.proofs.Flags.{flag_bit}
use Rattle.moves.proofs.Readers.{names, named_by_lem}
use Rattle.moves.proofs.Shown.{all_readers}
use Rattle.moves.proofs.Changed.{at_same, at_other, seen_other, own_other, own_at, own_none, plain, plain_node, node_adds_lem, out_adds}

-- what word i + 1 of node v adds after d, turned t times more
unfoldable pub after_move : Graph → Choice → ℕ → ℕ → ℕ → ℕ
after_move g d v i t = cond (is_edge g (3 * v + i)) (plain g d (word g (3 * v + i) / 2) (word g (3 * v + i) + t)) 0

unfoldable pub costs_after : Graph → Choice → ℕ → List ℕ
costs_after g d v = after_move g d v 0 0 ∷ after_move g d v 0 1 ∷ after_move g d v 1 0 ∷ after_move g d v 1 1 ∷ after_move g d v 2 0 ∷ after_move g d v 2 1 ∷ []

-- what no move of v changes
unfoldable pub fixed : Graph → Choice → ℕ → ℕ → ℕ
fixed g d v j = cond (eqb (j / 3) v) 0 (cond (named g (node g v) j) 0 (node_adds (apply g d) j))

unfoldable pub output_fixed : Graph → Choice → ℕ → ℕ → ℕ
output_fixed g d v j = cond (output_named g (node g v) j) 0 (output_adds (apply g d) j)

unfoldable pub rest_of : Graph → Choice → ℕ → ℕ
rest_of g d v = sum (3 * g.N) (fixed g d v) + sum g.O (output_fixed g d v)

-- d has no move from index u on
abbrev pub Below : Choice → ℕ → Type 0
Below d u = (w : ℕ) → u ≤ w → d w ≡ 0

pub at_zero : (d : Choice) (u : ℕ) → d u ≡ 0 → at d u 0 ≡ d
at_zero d u e = fun_ext (λ w. ⊎_elim (λ (q : w ≡ u). rw q (at_same d u 0 ∙ sym e)) (λ (q : w ≢ u). at_other d u 0 w q) (eq_or_ne w u))

module _ (g : Graph) (adm : Admitted g) (d : Choice) (v : ℕ) (h : v < g.N) (quiet : Below d (node g v)) (k : ℕ) where
  read : ℕ → ℕ
  read j = cond (named g (node g v) j) ((word g j + flag (is_xor g v) k 3) % 2) 0

  output_read : ℕ → ℕ
  output_read j = cond (output_named g (node g v) j) ((output g j + flag (is_xor g v) k 3) % 2) 0

  -- a word that names v
  read_word : (j : ℕ) → j < 3 * g.N → named g (node g v) j ≡ true → node_adds (apply g (at d (node g v) k)) j ≡ (word g j + flag (is_xor g v) k 3) % 2
  read_word j l e =
      let m = names g (node g v) j e in
      let o : v < j / 3 = omega (arith, adm.below j l m.0, m.1) in
      rw (
        node_adds_lem g (at d (node g v) k) adm j l,
        m.0,
        m.1,
        own_other d (node g v) k g j (λ z. omega arith),
        own_none g d j (quiet (node g (j / 3)) (omega arith)),
        plain_node g (at d (node g v) k) v (word g j + 0) h,
        at_same d (node g v) k,
      )
      (omega arith)

  -- no word of v names it
  own_unnamed : (i : ℕ) → i < 3 → named g (node g v) (3 * v + i) ≡ false
  own_unnamed i l =
      ⊎_elim
      (λ (e : named g (node g v) (3 * v + i) ≡ true). let m = names g (node g v) (3 * v + i) e in absurd (omega (arith, adm.below (3 * v + i) (omega arith) m.0, m.1)))
      (λ (e : named g (node g v) (3 * v + i) ≡ false). e)
      (true_or_false (named g (node g v) (3 * v + i)))

  away_word : (j : ℕ) → j < 3 * g.N → j / 3 ≢ v → named g (node g v) j ≡ false → node_adds (apply g d) j ≡ node_adds (apply g (at d (node g v) k)) j
  away_word j l p f =
      let o : node g (j / 3) ≢ node g v = λ z. p (omega arith) in
      rw (node_adds_lem g d adm j l, node_adds_lem g (at d (node g v) k) adm j l, own_other d (node g v) k g j o)
      (⊎_elim
      (λ (e : is_edge g j ≡ true). rw (e, seen_other d (node g v) k g (word g j / 2) (λ z. clash (named_by_lem g (node g v) j e z) f)))
      (λ (e : is_edge g j ≡ false). rw e)
      (true_or_false (is_edge g j)))

  apart : (j : ℕ) → j < 3 * g.N → j / 3 ≢ v → read j + fixed g d v j ≡ node_adds (apply g (at d (node g v) k)) j
  unfolding fixed read
  apart j l p =
      ⊎_elim
      (λ (e : named g (node g v) j ≡ true). rw (ne_eqb (j / 3) v p, e) (omega (arith, read_word j l e)))
      (λ (e : named g (node g v) j ≡ false). rw (ne_eqb (j / 3) v p, e) (omega (arith, away_word j l p e)))
      (true_or_false (named g (node g v) j))

  own_apart : (i : ℕ) → i < 3 → read (3 * v + i) + fixed g d v (3 * v + i) ≡ 0
  unfolding fixed read
  own_apart i l = rw (own_unnamed i l, eq-eqb ((3 * v + i) / 3) v (omega arith))

  out_apart : (j : ℕ) → j < g.O → output_read j + output_fixed g d v j ≡ output_adds (apply g (at d (node g v) k)) j
  unfolding output_fixed output_named output_read
  out_apart j l =
      ⊎_elim
      (λ (e : eqb (output g j / 2) (node g v) ≡ true).
      rw (e, out_adds g (at d (node g v) k) adm j l, eqb-true (output g j / 2) (node g v) e, plain_node g (at d (node g v) k) v (output g j) h, at_same d (node g v) k)
      (omega arith))
      (λ (e : eqb (output g j / 2) (node g v) ≡ false).
      rw (e, out_adds g (at d (node g v) k) adm j l, seen_other d (node g v) k g (output g j / 2) (eqb-false _ _ e)) (omega (arith, out_adds g d adm j l)))
      (true_or_false (eqb (output g j / 2) (node g v)))

  -- the own words of v
  own_word : (i : ℕ) → i < 3 → node_adds (apply g (at d (node g v) k)) (3 * v + i) ≡ after_move g d v i (flag (is_xor g v) k i)
  unfolding after_move
  own_word i l =
      rw (node_adds_lem g (at d (node g v) k) adm (3 * v + i) (omega arith), own_at g (at d (node g v) k) v i l, at_same d (node g v) k)
      (⊎_elim
      (λ (e : is_edge g (3 * v + i) ≡ true). rw (e, seen_other d (node g v) k g (word g (3 * v + i) / 2) (λ z. omega (arith, adm.below (3 * v + i) (omega arith) e))))
      (λ (e : is_edge g (3 * v + i) ≡ false). rw e)
      (true_or_false (is_edge g (3 * v + i))))

  at_bit : (i f : ℕ) → i < 3 → f ≤ 1 → after_move g d v i f ≡ get_or (costs_after g d v) (2 * i + f) 0
  unfolding costs_after
  at_bit zero zero l m = refl
  at_bit zero (suc zero) l m = refl
  at_bit zero (suc (suc f)) l m = absurd (omega arith)
  at_bit (suc zero) zero l m = refl
  at_bit (suc zero) (suc zero) l m = refl
  at_bit (suc zero) (suc (suc f)) l m = absurd (omega arith)
  at_bit (suc (suc zero)) zero l m = refl
  at_bit (suc (suc zero)) (suc zero) l m = refl
  at_bit (suc (suc zero)) (suc (suc f)) l m = absurd (omega arith)
  at_bit (suc (suc (suc i))) f l m = absurd (omega arith)

  at_flag : (i f p : ℕ) → i < 3 → f ≤ 1 → p ≡ 2 * i + f → after_move g d v i f ≡ get_or (costs_after g d v) p 0
  at_flag i f p l m e = rw e (at_bit i f l m)

  pub cost_step : C (apply g (at d (node g v) k)) ≡ cost_with (is_xor g v) (costs_after g d v) (readers g (node g v)) (shown g (node g v) 0) k + rest_of g d v
  unfolding C cost_with cost_by rest_of shown apply turned_by read output_read
  cost_step =
      let x : Bool = is_xor g v in
      let w = sum_but_node (3 * g.N) (λ j. read j + fixed g d v j) (node_adds (apply g (at d (node g v) k))) v (omega arith) (λ j l p. apart j l p) in
      let os = sum_same g.O _ _ out_apart in
      omega (
        arith,
        w,
        os,
        sum_add (3 * g.N) read (fixed g d v),
        sum_add g.O output_read (output_fixed g d v),
        own_word 0 (omega arith),
        own_word 1 (omega arith),
        own_word 2 (omega arith),
        own_apart 0 (omega arith),
        own_apart 1 (omega arith),
        own_apart 2 (omega arith),
        at_flag 0 (flag x k 0) (flag x k 0) (omega arith) (flag_bit x k 0 (omega arith)) (omega arith),
        at_flag 1 (flag x k 1) (2 + flag x k 1) (omega arith) (flag_bit x k 1 (omega arith)) (omega arith),
        at_flag 2 (flag x k 2) (4 + flag x k 2) (omega arith) (flag_bit x k 2 (omega arith)) (omega arith),
        all_readers g (node g v) (flag x k 3) (flag_bit x k 3 (omega arith)),
      )
