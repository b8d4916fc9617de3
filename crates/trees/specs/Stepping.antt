-- What the tree step of a settling makes of the state. No promise to a caller.
use Rattle.std.specs.Prelude.{◌≡◌, List, ◌≢◌, ℕ, ◌<◌, length}
use Rattle.graph.specs.Graph.{Graph}
use Rattle.graph.specs.Count.{C}
use Rattle.moves.specs.Tree.{tree}
use Rattle.moves.specs.Call.{moved, best_at}
use Rattle.state.specs.State.{field, stands, Ordered}

-- h with the locks ls after the tree call at the root r: its graph, as `tree_call` has it
abbrev pub tree_moved : Graph → List ℕ → ℕ → Graph
tree_moved h ls r = moved h (tree h r) (best_at h ls (tree h r))

-- tables g and scratch `after`, in order, that stand for h, c being C of h; of scratch `before` only the counts of complemented
-- readers, the pending turns and the costs have changed
pub record TreeMade (before : List ℕ) (g : Graph) (after : List ℕ) (h : Graph) (c : ℕ) : Type 0 where
  pub ordered : Ordered g after
  pub stands_for : stands g after ≡ h
  pub long : length after ≡ length before
  pub kept : (v f : ℕ) → f < 8 → f ≢ 1 → f ≢ 2 → f ≢ 4 → field after v f ≡ field before v f
  pub count : c ≡ C h
