-- A round (document 01's term): the tree call at each root by rising index, the node call at each node by rising index, then
-- the pair call at each node by rising index with its words in order. The locks ls are the same for all calls. None of these calls is refused,
-- so that each is here the rewriting that it makes.
use Rattle.std.specs.Prelude.{◌∷◌, ◌+ℤ◌}
use Rattle.graph.specs.All.{ℕ, zero, suc, cond, List, [], eqb, ℤ, pos, Graph, node, Outcome, own_of, others_of}
use Rattle.moves.specs.All.{is_root, tree, rewrite, pair_rewrite, word_fault}

-- calls made one after the other: what they have saved so far, over the words of the nodes that each names and over all other edges,
-- and the graph as they leave it
pub record Progress : Type 0 where
  pub own : ℤ
  pub others : ℤ
  pub graph : Graph

unfoldable pub start : Graph → Progress
start g = record { own = pos 0; others = pos 0; graph = g }

-- one more call
unfoldable pub after : (Graph → Outcome) → Progress → Progress
after call p =
    let o = call p.graph in
    record { own = p.own +ℤ own_of o.answer; others = p.others +ℤ others_of o.answer; graph = o.graph }

-- a step for each of the first n nodes, by rising index
unfoldable pub each : (ℕ → Progress → Progress) → ℕ → Progress → Progress
each step zero p = p
each step (suc n) p = step n (each step n p)

-- the tree call at node v, where it is a root
unfoldable pub tree_at : List ℕ → ℕ → Progress → Progress
tree_at ls v p = cond (is_root p.graph (node p.graph v)) (after (λ g. rewrite g ls (tree g (node g v))) p) p

-- the node call at node v
unfoldable pub node_at : List ℕ → ℕ → Progress → Progress
node_at ls v p = after (λ g. rewrite g ls (node g v ∷ [])) p

-- the pair call at word k of node v, where the node has one: an XOR has two, a majority three; and at its words in order
unfoldable pub pair_at : List ℕ → ℕ → ℕ → Progress → Progress
pair_at ls v k p = cond (eqb (word_fault p.graph (node p.graph v) k) 0) (after (λ g. pair_rewrite g ls (node g v) k) p) p

unfoldable pub pairs_at : List ℕ → ℕ → Progress → Progress
pairs_at ls v p = pair_at ls v 3 (pair_at ls v 2 (pair_at ls v 1 p))

unfoldable pub round : List ℕ → Progress → Progress
round ls p =
    let n = p.graph.N in
    each (pairs_at ls) n (each (node_at ls) n (each (tree_at ls) n p))
