-- `fill_costs` meets its contract: the nodes of the tree passed have their costs. From the laws on the pass.
use mathlib.Core.List.{List}
use Prim.Native.Nat.{ℕ, ◌-◌}
use Rattle.graph.specs.Graph.{Graph}
use Rattle.state.specs.State.{stands}
use Rattle.trees.proofs.CostPass.{CostRight}
use Rattle.trees.proofs.Passes.{RisenTo}
use Rattle.trees.proofs.costs.fill_costs.Given as goal
use Rattle.graph.specs.Tables.{lent_graph}

abbrev pub Inv : Graph → List ℕ → ℕ → List ℕ → List ℕ → ℕ → Type 0
Inv g ls r sc₀ sc v = RisenTo (stands g sc₀) (CostRight (stands g sc₀) ls) sc₀ sc r v

abbrev pub invariant-loop-v : goal.invariant-loop-v
invariant-loop-v l = Inv (lent_graph l.lent) l.lent.locks.now l.root l.initial.scratch l.scratch l.v

abbrev pub decreases-loop-v : goal.decreases-loop-v
decreases-loop-v l = l.root - l.v
