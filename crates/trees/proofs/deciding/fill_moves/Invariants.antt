-- `fill_moves` meets its contract: the nodes of the tree passed are decided. From the laws on the pass.
use mathlib.Core.List.{List}
use Prim.Native.Nat.{ℕ}
use Rattle.graph.specs.Graph.{Graph}
use Rattle.state.specs.State.{stands}
use Rattle.trees.proofs.Falling.{bound_of}
use Rattle.trees.proofs.DecidePass.{MoveRight}
use Rattle.trees.proofs.Passes.{FallenTo}
use Rattle.trees.proofs.deciding.fill_moves.Given as goal
use Rattle.graph.specs.Tables.{lent_graph}

abbrev pub Inv : Graph → List ℕ → List ℕ → ℕ → List ℕ → ℕ → Type 0
Inv g ls sc₁ r sc v = FallenTo (stands g sc₁) (MoveRight (stands g sc₁) ls r) sc₁ r v sc

abbrev pub invariant-loop-v : goal.invariant-loop-v
invariant-loop-v l = Inv (lent_graph l.lent) l.lent.locks.now l.initial.scratch l.root l.scratch l.v

abbrev pub decreases-loop-v : goal.decreases-loop-v
decreases-loop-v l = bound_of l.v
