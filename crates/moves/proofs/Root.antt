-- The potential once the root is decided: its cost, and what no move of it changes.
use Rattle.std.proofs.Common.{◌≡◌, ℕ, suc, ◌+◌, ◌*◌, ◌/◌, ◌%◌, ◌<◌, true, false, cond, eqb, ◌≢◌, refl, ⊎_elim, arith, eq-eqb, ne_eqb, eqb-true}
use borrow.Author.Tests.{eqb-false}
use Rattle.graph.specs.Admission.{Admitted}
use Rattle.graph.specs.Count.{output_adds, named, output_named}
use Rattle.graph.specs.Finite.{sum}
use Rattle.graph.specs.Graph.{Graph, is_xor, node, word, output}
use Rattle.moves.specs.Apply.{apply, at, none}
use Rattle.moves.specs.Cost.{inner, shown, own_cost, word_cost, root_cost}
use Rattle.moves.specs.Rows.{flag}
use Rattle.moves.specs.Tree.{is_root, root_of}
use Rattle.graph.proofs.Cases.{true_or_false}
use Rattle.graph.proofs.Finite.{sum_same}
use Rattle.moves.proofs.Count.{clash, sum_add, sum_but_node}
use Rattle.moves.proofs.Readers.{names, named_by_lem, root_of_root}
use Rattle.moves.proofs.Changed.{at_same, own_other, own_none, plain_node, out_adds}
use Rattle.moves.proofs.Potential.{part, term, Φ, undecided_past, own_word, away_word, away_out}

-- what no move of the root changes
fixed : Graph → (ℕ → ℕ → ℕ) → ℕ → ℕ → ℕ
fixed g c n j = cond (eqb (j / 3) n) 0 (cond (named g (node g n) j) 0 (term g c (node g n) (suc n) none j))

output_fixed : Graph → ℕ → ℕ → ℕ
output_fixed g n j = cond (output_named g (node g n) j) 0 (output_adds (apply g none) j)

pub all_fixed : Graph → (ℕ → ℕ → ℕ) → ℕ → ℕ
all_fixed g c n = sum (3 * g.N) (fixed g c n) + sum g.O (output_fixed g n)

module _ (g : Graph) (c : ℕ → ℕ → ℕ) (adm : Admitted g) (n : ℕ) (h : n < g.N) (t : is_root g (node g n) ≡ true) (k : ℕ) where
  own_root : root_of g (node g n) ≡ node g n
  own_root = root_of_root g adm (node g n) t

  -- a word that names the root
  read_root : (j : ℕ) → j < 3 * g.N → named g (node g n) j ≡ true → term g c (node g n) n (at none (node g n) k) j ≡ (word g j + flag (is_xor g n) k 3) % 2
  unfolding term part
  read_root j l e =
      let m = names g (node g n) j e in
      let o : n < j / 3 = omega (arith, adm.below j l m.0, m.1) in
      rw (
        undecided_past g (node g n) n (node g (j / 3)) (omega arith),
        m.0,
        m.1,
        undecided_past g (node g n) n (node g n) (omega arith),
        own_other none (node g n) k g j (λ z. omega arith),
        own_none g none j refl,
        plain_node g (at none (node g n) k) n (word g j + 0) h,
        at_same none (node g n) k,
      )
      (omega arith)

  -- no word of the root names it
  own_unnamed : (i : ℕ) → i < 3 → named g (node g n) (3 * n + i) ≡ false
  own_unnamed i l =
      ⊎_elim
      (λ (e : named g (node g n) (3 * n + i) ≡ true). let m = names g (node g n) (3 * n + i) e in absurd (omega (arith, adm.below (3 * n + i) (omega arith) m.0, m.1)))
      (λ (e : named g (node g n) (3 * n + i) ≡ false). e)
      (true_or_false (named g (node g n) (3 * n + i)))

  read : ℕ → ℕ
  read j = cond (named g (node g n) j) ((word g j + flag (is_xor g n) k 3) % 2) 0

  apart : (j : ℕ) → j < 3 * g.N → j / 3 ≢ n → read j + fixed g c n j ≡ term g c (node g n) n (at none (node g n) k) j
  unfolding fixed read
  apart j l p =
      ⊎_elim
      (λ (e : named g (node g n) j ≡ true). rw (ne_eqb (j / 3) n p, e) (omega (arith, read_root j l e)))
      (λ (e : named g (node g n) j ≡ false).
      rw (ne_eqb (j / 3) n p, e)
      (omega (arith, away_word g c (node g n) adm n h own_root none (λ u q. refl) k j p (λ i z. clash (named_by_lem g (node g n) j i z) e))))
      (true_or_false (named g (node g n) j))

  own_apart : (i : ℕ) → i < 3 → read (3 * n + i) + fixed g c n (3 * n + i) ≡ 0
  unfolding fixed read
  own_apart i l = rw (own_unnamed i l, eq-eqb ((3 * n + i) / 3) n (omega arith))

  out_apart : (j : ℕ) → j < g.O → cond (output_named g (node g n) j) ((output g j + flag (is_xor g n) k 3) % 2) 0 + output_fixed g n j ≡ output_adds (apply g (at none (node g n) k)) j
  unfolding output_fixed output_named
  out_apart j l =
      ⊎_elim
      (λ (e : eqb (output g j / 2) (node g n) ≡ true).
      rw (e, out_adds g (at none (node g n) k) adm j l, eqb-true (output g j / 2) (node g n) e, plain_node g (at none (node g n) k) n (output g j) h, at_same none (node g n) k)
      (omega arith))
      (λ (e : eqb (output g j / 2) (node g n) ≡ false).
      rw e (omega (arith, away_out g c (node g n) adm n h own_root none (λ u q. refl) k j l (eqb-false _ _ e))))
      (true_or_false (eqb (output g j / 2) (node g n)))

  pub Φ_root : Φ g c (node g n) n (at none (node g n) k) ≡ root_cost g (inner g) c n k + all_fixed g c n
  unfolding Φ root_cost own_cost shown all_fixed read
  Φ_root =
      let w = sum_but_node (3 * g.N) (λ j. read j + fixed g c n j) (term g c (node g n) n (at none (node g n) k)) n (omega arith) (λ j l p. apart j l p) in
      let os = sum_same g.O _ _ out_apart in
      let own : (i : ℕ) → i < 3 → term g c (node g n) n (at none (node g n) k) (3 * n + i) ≡ word_cost g (inner g) c n k i =
      own_word g c (node g n) adm n h own_root none (λ u q. refl) k in
      omega (
        arith,
        w,
        os,
        sum_add (3 * g.N) read (fixed g c n),
        sum_add g.O (λ j. cond (output_named g (node g n) j) ((output g j + flag (is_xor g n) k 3) % 2) 0) (output_fixed g n),
        own 0 (omega arith),
        own 1 (omega arith),
        own 2 (omega arith),
        own_apart 0 (omega arith),
        own_apart 1 (omega arith),
        own_apart 2 (omega arith),
      )
