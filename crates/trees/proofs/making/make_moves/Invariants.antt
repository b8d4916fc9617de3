-- `make_moves` meets its contract: the moves of the tree's nodes passed are made. From the laws on the pass.
use mathlib.Core.Path.{◌≡◌}
use mathlib.Core.List.{List}
use mathlib.Core.Logic.{◌≢◌}
use Prim.Native.Nat.{ℕ, ◌≤◌}
use Rattle.graph.specs.Graph.{Graph, mark, node}
use Rattle.graph.specs.Count.{C}
use Rattle.moves.specs.Tree.{root_of}
use Rattle.state.specs.State.{stands}
use Rattle.trees.proofs.Falling.{bound_of}
use Rattle.trees.proofs.MakePass.{MadeFrom}
use Rattle.trees.proofs.making.make_moves.Given as goal
use Rattle.graph.specs.Tables.{lent_graph}

pub record Inv (g : Graph) (sc₁ : List ℕ) (r : ℕ) (sc : List ℕ) (v now : ℕ) : Type 0 where
  pub mf : MadeFrom (stands g sc₁) sc₁ r (bound_of v) g sc
  pub here : v ≢ mark → (v ≤ r) × (root_of (stands g sc₁) (node (stands g sc₁) v) ≡ node (stands g sc₁) r)
  pub count : now ≡ C (stands g sc)

abbrev pub invariant-loop-v : goal.invariant-loop-v
invariant-loop-v l = Inv (lent_graph l.lent) l.initial.scratch l.root l.scratch l.v l.c

abbrev pub decreases-loop-v : goal.decreases-loop-v
decreases-loop-v l = bound_of l.v
