-- `fill_costs` meets its contract: the nodes of the tree passed have their costs. From the laws on the pass.
use mathlib.Core.Path.{◌≡◌, ap, ◌∙◌}
use mathlib.Core.Bool.{true}
use mathlib.Core.List.{List}
use mathlib.Core.Logic.{◌≢◌}
use Prim.Native.Nat.{ℕ, ◌/◌, ◌%◌, ◌<◌}
use Rattle.graph.specs.Graph.{Graph, node}
use Rattle.graph.specs.Turned.{turned_by}
use Rattle.moves.specs.Tree.{is_root}
use Rattle.moves.specs.Cost.{bit_cost}
use Rattle.state.specs.State.{field, stands, Ordered}
use Rattle.state.proofs.Alike.{alike_is_root}
use Rattle.state.proofs.Stands.{stands_alike}
use Rattle.trees.specs.Filling.{Stored}
use Rattle.trees.specs.Costing.{inner_at, cost_at, CostedBelow}
use Rattle.trees.proofs.Ready.{ordered_ready, ordered_costs, stands_costs, stands_I, stands_N}
use Rattle.trees.proofs.CostPass.{CostRight, costed_below, costs_step}
use Rattle.trees.proofs.Passes.{risen_begin}
use native.Mathlib.Omega.{arith}
use Rattle.trees.proofs.costs.fill_costs.Goals as goal
use Rattle.trees.proofs.costs.fill_costs.Invariants.{Inv}

module _ (g : Graph) (ls sc₀ : List ℕ) (o : Ordered g sc₀) (r : ℕ) (h : r < g.N) (t : is_root g (node g r) ≡ true) where
  root-now : is_root (stands g sc₀) (node (stands g sc₀) r) ≡ true
  root-now = rw (alike_is_root g (stands g sc₀) (stands_alike g sc₀ o.admitted) (node (stands g sc₀) r), stands_I g sc₀) t

  begin : (v : ℕ) → v ≡ field sc₀ r 7 → Inv g ls r sc₀ sc₀ v
  begin = risen_begin (stands g sc₀) (CostRight (stands g sc₀) ls) sc₀ (ordered_ready g sc₀ o) r (rw (stands_N g sc₀) h) root-now

  again : (sc : List ℕ) (v : ℕ) → Inv g ls r sc₀ sc v → v ≢ r → (sc' : List ℕ) (x : ℕ) → Stored v 4 x sc sc'
      → x % 2 ≡ bit_cost (stands g sc) ls (inner_at g.I sc) (cost_at g.I sc) v 0 → x / 2 % 2 ≡ bit_cost (stands g sc) ls (inner_at g.I sc) (cost_at g.I sc) v 1
      → (w : ℕ) → w ≡ field sc' v 6 → Inv g ls r sc₀ sc' w × (v < w)
  unfolding stands turned_by
  again sc v iv d sc' x st b₀ b₁ =
      costs_step (stands g sc₀) ls sc₀ (ordered_ready g sc₀ o) r (rw (stands_N g sc₀) h) root-now sc v iv d sc' x st
      (b₀ ∙ ap (λ z. bit_cost z ls (inner_at g.I sc) (cost_at g.I sc) v 0) (stands_costs g sc₀ sc iv.only)) (b₁ ∙ ap (λ z. bit_cost z ls (inner_at g.I sc) (cost_at g.I sc) v 1) (stands_costs g sc₀ sc iv.only))

  last : (sc : List ℕ) (v : ℕ) → Inv g ls r sc₀ sc v → v ≡ r → CostedBelow (stands g sc₀) ls sc (node g r) r
  unfolding stands turned_by
  last sc v iv e = rw e at (costed_below (stands g sc₀) ls sc r v iv.done)

pub read-v-requires : goal.read-v-requires
read-v-requires c = omega (arith, c.requires.0.long, c.requires.0.admitted.few_nodes, c.requires.1)

pub loop-v-init : goal.loop-v-init
loop-v-init c = let p = c.requires in begin _ _ _ p.0 _ p.1 p.2 _ c.read-v.ensures

pub node_costs-bits-requires : goal.node_costs-bits-requires
node_costs-bits-requires c = (ordered_costs _ _ _ c.loop-v.invariant.only c.requires.0, omega (arith, c.loop-v.invariant.within, c.requires.1), c.requires.3)

pub store-requires : goal.store-requires
store-requires c = omega (arith, c.loop-v.invariant.within, c.loop-v.invariant.only.same, c.requires.0.long, c.requires.0.admitted.few_nodes, c.requires.1)

pub read-v-requires-in-loop-v : goal.read-v-requires-in-loop-v
read-v-requires-in-loop-v c = omega (arith, c.loop-v.invariant.within, c.loop-v.invariant.only.same, c.requires.0.long, c.requires.0.admitted.few_nodes, c.requires.1)

pub loop-v-smaller : goal.loop-v-smaller
loop-v-smaller c =
    let p = c.requires in
    let a = again _ _ _ p.0 _ p.1 p.2 _ _ c.loop-v.invariant (λ e. omega arith) _ _ c.store.ensures c.node_costs-bits.ensures.0 c.node_costs-bits.ensures.1 _ c.read-v-in-loop-v.ensures in
    omega (arith, a.1, c.loop-v.invariant.within)

pub loop-v-preserved : goal.loop-v-preserved
loop-v-preserved c =
    let p = c.requires in
    (again _ _ _ p.0 _ p.1 p.2 _ _ c.loop-v.invariant (λ e. omega arith) _ _ c.store.ensures c.node_costs-bits.ensures.0 c.node_costs-bits.ensures.1 _ c.read-v-in-loop-v.ensures).0

pub shape_of-scratch : goal.shape_of-scratch
shape_of-scratch c = c.loop-v.invariant.only.same

pub returns : goal.returns
returns c = let p = c.requires in (last _ _ _ p.0 _ p.1 p.2 _ _ c.loop-v.invariant (omega arith), c.loop-v.invariant.only)
