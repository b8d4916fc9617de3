-- The choice that a tree call makes, node by node.
use Rattle.std.proofs.Common.{◌≡◌, ℕ, zero, suc, ◌+◌, cond, ◌&&◌, eqb, ltb, ◌≢◌, ◌⊎◌, List, [], ◌∷◌, map, refl, ap, ◌∙◌, inl, inr, arith}
use mathlib.Core.Path.{fun_ext}
use Rattle.graph.specs.Graph.{Graph, node}
use Rattle.graph.proofs.Cases.{eq_or_ne}
use Rattle.moves.specs.Apply.{Choice, at, none, put}
use Rattle.moves.specs.Tree.{root_of, members, tree}
use Rattle.moves.proofs.Changed.{at_same, at_other}
use Rattle.moves.proofs.Potential.{undecided, undecided_yes, undecided_no, undecided_past, undecided_same}
use Rattle.moves.proofs.Programme.{members_zero, members_in, members_out}

-- m in the tree of r, 0 elsewhere
unfoldable pub within : Graph → ℕ → Choice → Choice
within g r m u = cond ((ltb g.I u && ltb u (g.I + 1 + g.N)) && eqb (root_of g u) r) (m u) 0

module _ (g : Graph) (r : ℕ) (m : Choice) where
  put_cons : (d : Choice) (u : ℕ) (us : List ℕ) → put d (u ∷ us) (map m (u ∷ us)) ≡ put (at d u (m u)) us (map m us)
  unfolding put
  put_cons d u us = refl

  put_nil : (d : Choice) → put d [] (map m []) ≡ d
  unfolding put
  put_nil d = refl

  put_members : (n : ℕ) (d : Choice) (u : ℕ) → put d (members g r n) (map m (members g r n)) u ≡ cond (undecided g r n u) (m u) (d u)
  put_members zero d u = rw (members_zero g r, undecided_no g r 0 u (λ x. omega (arith, x.high, x.low))) (ap (λ x. x u) (put_nil d))
  put_members (suc n) d u = go (eq_or_ne (root_of g (node g n)) r) (eq_or_ne u (node g n)) (λ d. put_members n d u)
    where
      go : (root_of g (node g n) ≡ r) ⊎ (root_of g (node g n) ≢ r) → (u ≡ node g n) ⊎ (u ≢ node g n)
          → ((d : Choice) → put d (members g r n) (map m (members g r n)) u ≡ cond (undecided g r n u) (m u) (d u))
          → put d (members g r (suc n)) (map m (members g r (suc n))) u ≡ cond (undecided g r (suc n) u) (m u) (d u)
      go (inr e) q ih = rw (members_out g r n e, undecided_same g r n u (λ z. rw z e)) (ih d)
      go (inl e) (inr q) ih =
          rw (members_in g r n e, put_cons d (node g n) (members g r n), undecided_same g r n u (λ z. absurd (q z)))
          (ih _ ∙ rw (at_other d (node g n) (m (node g n)) u q))
      go (inl e) (inl q) ih =
          rw (members_in g r n e, put_cons d (node g n) (members g r n))
          (ih _ ∙
          rw (q, undecided_past g r n (node g n) (omega arith), undecided_yes g r (suc n) (node g n) (omega arith) (omega arith) e)
          (at_same d (node g n) (m (node g n))))

  pub put_tree : put none (tree g r) (map m (tree g r)) ≡ within g r m
  unfolding tree within undecided
  put_tree = fun_ext (λ u. put_members g.N none u)
