-- Readers and roots.
use Rattle.std.proofs.Common.{◌≡◌, ℕ, zero, suc, ◌+◌, ◌*◌, ◌/◌, ◌<◌, ◌≤◌, Bool, true, false, ◌&&◌, eqb, ◌≢◌, sym, refl, ap, ◌∙◌, ⊎_elim, arith, eq-eqb, eqb-true}
use borrow.Author.Tests.{eqb-false, not-false}
use Rattle.graph.specs.Admission.{Admitted}
use Rattle.graph.specs.Count.{named, output_named, node_readers, readers}
use Rattle.graph.specs.Finite.{count}
use Rattle.graph.specs.Graph.{Graph, is_edge, node, word, output}
use Rattle.moves.specs.Tree.{is_root, place, reader, root_in, root_of}
use Rattle.graph.proofs.Cases.{true_or_false}
use Rattle.moves.proofs.Count.{count_none, count_only, Only, clash}

pub both_true : (a b : Bool) → a && b ≡ true → (a ≡ true) × (b ≡ true)
both_true true b e = (refl, e)
both_true false b e = absurd (clash e refl)

module _ (g : Graph) where
  pub names : (u j : ℕ) → named g u j ≡ true → (is_edge g j ≡ true) × (word g j / 2 ≡ u)
  unfolding named
  names u j e = let b = both_true (is_edge g j) (eqb (word g j / 2) u) e in (b.0, eqb-true _ _ b.1)

  pub named_by_lem : (u j : ℕ) → is_edge g j ≡ true → word g j / 2 ≡ u → named g u j ≡ true
  unfolding named
  named_by_lem u j e h = rw (e, eq-eqb _ _ h)

  -- a non-root has one reader, and that is a word of the node table
  pub record Single (u : ℕ) : Type 0 where
    pub at : Only (named g u) (3 * g.N) (place g u)
    pub no_out : (j : ℕ) → j < g.O → output g j / 2 ≢ u

  pub single : (u : ℕ) → is_root g u ≡ false → Single u
  unfolding is_root readers node_readers place output_named
  single u e =
      let b = both_true (eqb (readers g u) 1) (eqb (node_readers g u) 1) (not-false _ e) in
      let r : node_readers g u + count g.O (output_named g u) ≡ 1 = eqb-true _ _ b.0 in
      let n : node_readers g u ≡ 1 = eqb-true _ _ b.1 in
      record {
        at = count_only (named g u) (3 * g.N) n;
        no_out = λ j h q. eqb-false _ _ (count_none (output_named g u) g.O (omega arith) j h) q;
      }

  module _ (adm : Admitted g) where
    -- its reader stands above it
    pub reader_above : (u : ℕ) → is_root g u ≡ false → (u < reader g u) × (reader g u < g.I + 1 + g.N)
    unfolding reader
    reader_above u e =
        let s = (single u e).at in
        let m = names u (place g u) s.passes in
        omega (arith, adm.below (place g u) s.below m.0, s.below, m.1)

    -- any node that names it is its reader
    pub reader_is : (u v : ℕ) → is_root g u ≡ false → (k : ℕ) → k < 3 → v < g.N → is_edge g (3 * v + k) ≡ true → word g (3 * v + k) / 2 ≡ u → reader g u ≡ node g v
    unfolding reader
    reader_is u v e k l h i q =
        let p = (single u e).at.only (3 * v + k) (omega arith) (named_by_lem u (3 * v + k) i q) in
        let d : place g u / 3 ≡ v = omega arith in
        ap (node g) d

    root_in_zero : (u : ℕ) → root_in g zero u ≡ u
    unfolding root_in
    root_in_zero u = refl

    root_in_root : (f u : ℕ) → is_root g u ≡ true → root_in g (suc f) u ≡ u
    unfolding root_in
    root_in_root f u e = rw e

    root_in_inner : (f u : ℕ) → is_root g u ≡ false → root_in g (suc f) u ≡ root_in g f (reader g u)
    unfolding root_in
    root_in_inner f u e = rw e

    -- more fuel than there are nodes above changes nothing
    root_in_more : (f u : ℕ) → u < g.I + 1 + g.N → g.I + 1 + g.N ≤ u + f → root_in g (suc f) u ≡ root_in g f u
    root_in_more zero u h l = absurd (omega arith)
    root_in_more (suc f) u h l =
        ⊎_elim
        (λ (e : is_root g u ≡ true). root_in_root (suc f) u e ∙ sym (root_in_root f u e))
        (λ (e : is_root g u ≡ false).
        let a = reader_above u e in
        root_in_inner (suc f) u e ∙ root_in_more f (reader g u) a.1 (omega arith) ∙ sym (root_in_inner f u e))
        (true_or_false (is_root g u))

    -- a root is its own root
    pub root_of_root : (u : ℕ) → is_root g u ≡ true → root_of g u ≡ u
    unfolding root_of
    root_of_root u e = go g.N
      where
        go : (n : ℕ) → root_in g n u ≡ u
        go zero = root_in_zero u
        go (suc n) = root_in_root n u e

    -- any other node has its reader's
    pub root_of_inner : (u : ℕ) → g.I < u → u < g.I + 1 + g.N → is_root g u ≡ false → root_of g u ≡ root_of g (reader g u)
    unfolding root_of
    root_of_inner u i h e = go g.N refl
      where
        go : (n : ℕ) → g.N ≡ n → root_in g n u ≡ root_in g n (reader g u)
        go zero q = absurd (omega arith)
        go (suc n) q =
            let a = reader_above u e in
            root_in_inner n u e ∙ sym (root_in_more n (reader g u) a.1 (omega arith))

    -- in the tree of r, only r is a root
    pub not_root : (r u : ℕ) → root_of g u ≡ r → u ≢ r → is_root g u ≡ false
    not_root r u e d =
        ⊎_elim (λ (t : is_root g u ≡ true). absurd (d (sym (root_of_root u t) ∙ e))) (λ (t : is_root g u ≡ false). t) (true_or_false (is_root g u))

    -- a root stands above all of its tree
    pub root_in_above : (f u : ℕ) → u ≤ root_in g f u
    root_in_above zero u = rw (root_in_zero u) (omega arith)
    root_in_above (suc f) u =
        ⊎_elim
        (λ (e : is_root g u ≡ true). omega (arith, root_in_root f u e))
        (λ (e : is_root g u ≡ false). omega (arith, root_in_inner f u e, root_in_above f (reader g u), reader_above u e))
        (true_or_false (is_root g u))

    pub root_of_above : (u : ℕ) → u ≤ root_of g u
    unfolding root_of
    root_of_above u = root_in_above g.N u
