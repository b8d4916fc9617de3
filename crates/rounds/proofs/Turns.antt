-- What each step of a round does, as the inner functions have it: the best moves at a node, at a pair, at a tree. From their definitions.
use mathlib.Core.Path.{◌≡◌, refl}
use mathlib.Core.Bool.{true, false}
use mathlib.Core.List.{List, [], ◌∷◌}
use Prim.Native.Nat.{ℕ}
use borrow.Author.Tests.{eq-eqb, ne_eqb}
use lib.IntN.{◌+ℤ◌}
use Rattle.graph.specs.Graph.{node}
use Rattle.graph.specs.Answer.{Outcome, others_of}
use Rattle.moves.specs.Tree.{is_root, tree}
use Rattle.moves.specs.Call.{rewrite, word_fault, pair_rewrite}
use Rattle.rounds.specs.Round.{Progress, after, tree_at, node_at, pair_at}

-- p becomes q by a call with the outcome o
pub record Goes (p q : Progress) (o : Outcome) : Type 0 where
  pub others : q.others ≡ p.others +ℤ others_of o.answer
  pub graph : q.graph ≡ o.graph

module _ (ls : List ℕ) (p : Progress) where
  pub node_at_goes : (v : ℕ) → Goes p (node_at ls v p) (rewrite p.graph ls (node p.graph v ∷ []))
  unfolding node_at after
  node_at_goes v = record { others = refl; graph = refl }

  pub tree_at_root : (v : ℕ) → is_root p.graph (node p.graph v) ≡ true → Goes p (tree_at ls v p) (rewrite p.graph ls (tree p.graph (node p.graph v)))
  unfolding tree_at after
  tree_at_root v r = rw r (record { others = refl; graph = refl })

  pub tree_at_inner : (v : ℕ) → is_root p.graph (node p.graph v) ≡ false → tree_at ls v p ≡ p
  unfolding tree_at
  tree_at_inner v r = rw r

  pub pair_at_word : (v k : ℕ) → word_fault p.graph (node p.graph v) k ≡ 0 → Goes p (pair_at ls v k p) (pair_rewrite p.graph ls (node p.graph v) k)
  unfolding pair_at after
  pair_at_word v k w = rw (eq-eqb (word_fault p.graph (node p.graph v) k) 0 w) (record { others = refl; graph = refl })

  pub pair_at_none : (v k : ℕ) → (word_fault p.graph (node p.graph v) k ≡ 0 → ⊥) → pair_at ls v k p ≡ p
  unfolding pair_at
  pair_at_none v k w = rw (ne_eqb (word_fault p.graph (node p.graph v) k) 0 w)
