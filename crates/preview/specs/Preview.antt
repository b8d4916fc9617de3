-- The tree call seen first: its saving, and its moves a byte a node.
use Rattle.std.specs.Prelude.{◌+◌, ◌-◌, ◌≤◌, ◌≡◌}
use Rattle.graph.specs.All.{ℕ, cond, List, length, get_or, tab, if_less, if_equal, first, Graph, node, tables_number, Answer, unless}
use Rattle.moves.specs.All.{Choice, none, put, apply, tree, best_at, rewrite, is_node, tree_number, tree_call}
use Rattle.many.specs.All.{many_number, many_call}

-- the move that the tree call at the root r makes at each node, with the locks ls: 0 outside the tree, and at a locked node
unfoldable pub tree_moves : Graph → List ℕ → ℕ → Choice
tree_moves g ls r = put none (tree g r) (best_at g ls (tree g r))

-- bytes after a preview: a move for each node, and what stood past them
unfoldable pub moves_told : Graph → List ℕ → ℕ → List ℕ → List ℕ
moves_told g ls r bs = tab (length bs) (λ j. if_less j g.N (tree_moves g ls r (node g j)) (get_or bs j 0))

-- the choice of moves that bytes tell
unfoldable pub choice_in : Graph → List ℕ → Choice
choice_in g bs u = cond (is_node g u) (get_or bs (u - (g.I + 1)) 0) 0

-- 4: b bytes, where N are needed; it comes after the 4 of tables and locks, and all else is refused as by the tree call
unfoldable pub preview_number : Graph → List ℕ → ℕ → ℕ → ℕ → ℕ
preview_number g ls b s r = first (tables_number g ls) (first (if_less b g.N 4 0) (tree_number g ls s r))

-- what it answers, and the bytes as it leaves them
unfoldable pub preview_answer : Graph → List ℕ → ℕ → ℕ → ℕ → Answer
preview_answer g ls b s r = unless (preview_number g ls b s r) (rewrite g ls (tree g r)).answer

unfoldable pub preview_bytes : Graph → List ℕ → List ℕ → ℕ → ℕ → List ℕ
preview_bytes g ls bs s r = if_equal (preview_number g ls (length bs) s r) 0 (moves_told g ls r bs) bs

-- what a preview says is what the tree call does: with bytes enough it is refused by the same number; and where it is not refused,
-- it answers what the tree call answers, and the moves in its bytes, made on g, give the tree call's graph
pub record AsTreeCall (g : Graph) (ls bs : List ℕ) (s r : ℕ) : Type 0 where
  pub refused_alike : g.N ≤ length bs → preview_number g ls (length bs) s r ≡ tree_number g ls s r
  pub same_answer : preview_number g ls (length bs) s r ≡ 0 → preview_answer g ls (length bs) s r ≡ (tree_call g ls s r).answer
  pub same_graph : preview_number g ls (length bs) s r ≡ 0 → apply g (choice_in g (preview_bytes g ls bs s r)) ≡ (tree_call g ls s r).graph

-- all nodes, by rising index
unfoldable pub all_nodes : Graph → List ℕ
all_nodes g = tab g.N (λ v. node g v)

-- a preview's bytes as the moves of all nodes (M-106): the list is accepted, and gives the tree call's graph
pub record AsList (g : Graph) (ls bs : List ℕ) (s r : ℕ) : Type 0 where
  pub accepted : many_number g ls (all_nodes g) (preview_bytes g ls bs s r) ≡ 0
  pub same_graph : (many_call g ls (all_nodes g) (preview_bytes g ls bs s r)).graph ≡ (tree_call g ls s r).graph
