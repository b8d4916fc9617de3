-- `tell` meets its contract: the moves of the tree's nodes passed are told. From the laws on links and on `set`.
use mathlib.Core.Path.{◌≡◌}
use mathlib.Core.List.{List}
use mathlib.Core.Logic.{◌≢◌}
use Prim.Native.Nat.{ℕ, ◌≤◌, ◌<◌}
use lib.ListN.{length, get_or}
use Rattle.graph.specs.Graph.{Graph, mark, node}
use Rattle.moves.specs.Tree.{root_of}
use Rattle.state.specs.State.{field, stands}
use Rattle.trees.proofs.Falling.{bound_of}
use Rattle.preview.proofs.telling.tell.Given as goal
use Rattle.graph.specs.Tables.{lent_graph}

pub record Inv (g : Graph) (sc : List ℕ) (r : ℕ) (bs₀ bs : List ℕ) (v : ℕ) : Type 0 where
  pub same : length bs ≡ length bs₀
  pub told : (x : ℕ) → bound_of v ≤ x → x < (stands g sc).N → root_of (stands g sc) (node (stands g sc) x) ≡ node (stands g sc) r → get_or bs x 0 ≡ field sc x 4
  pub kept : (j : ℕ) → (j < (stands g sc).N → root_of (stands g sc) (node (stands g sc) j) ≡ node (stands g sc) r → j < bound_of v) → get_or bs j 0 ≡ get_or bs₀ j 0
  pub here : v ≢ mark → (v ≤ r) × (root_of (stands g sc) (node (stands g sc) v) ≡ node (stands g sc) r)

abbrev pub invariant-loop-v : goal.invariant-loop-v
invariant-loop-v l = Inv (lent_graph l.lent) l.scratch l.root l.initial.bytes l.bytes l.v

abbrev pub decreases-loop-v : goal.decreases-loop-v
decreases-loop-v l = bound_of l.v
