-- The two bits that are stored of a node's costs. From the laws on what a node costs.
use mathlib.Core.Path.{◌≡◌}
use mathlib.Core.Bool.{Bool}
use mathlib.Core.List.{List}
use Prim.Native.Nat.{ℕ, ◌+◌, ◌-◌, ◌*◌, ◌/◌, ◌%◌, ◌≤◌}
use native.Mathlib.Omega.{arith}
use Rattle.graph.specs.Graph.{Graph, node, is_xor}
use Rattle.choice.specs.Inner.{FirstBelow}
use Rattle.moves.specs.Rows.{moves_at}
use Rattle.moves.specs.Cost.{word_costs, node_cost, base_cost, bit_cost}
use Rattle.moves.specs.Decide.{cost_with}
use Rattle.moves.proofs.NodeCosts.{node_found, nodes_near}

module _ (h : Graph) (ls : List ℕ) (t : ℕ → Bool) (c : ℕ → ℕ → ℕ) (v m₀ m₁ a b : ℕ) (f₀ : FirstBelow (cost_with (is_xor h v) (word_costs h t c v) 1 0) (moves_at h ls (node h v)) m₀)
    (f₁ : FirstBelow (cost_with (is_xor h v) (word_costs h t c v) 1 1) (moves_at h ls (node h v)) m₁)
    (e₀ : a ≡ cost_with (is_xor h v) (word_costs h t c v) 1 0 m₀) (e₁ : b ≡ cost_with (is_xor h v) (word_costs h t c v) 1 1 m₁) where
  a_is : a ≡ node_cost h ls t c v 0
  a_is = node_found h t c v ls 0 m₀ a (omega arith) f₀ e₀

  b_is : b ≡ node_cost h ls t c v 1
  b_is = node_found h t c v ls 1 m₁ b (omega arith) f₁ e₁

  apart : (a ≤ b + 1) × (b ≤ a + 1)
  apart = omega (arith, a_is, b_is, nodes_near h t c v ls)

  pub bits_are : (r p q : ℕ) → p ≡ a - b → q ≡ b - a → r ≡ p + 2 * q → (r % 2 ≡ bit_cost h ls t c v 0) × (r / 2 % 2 ≡ bit_cost h ls t c v 1)
  unfolding bit_cost base_cost
  bits_are r p q ep eq er = let k = apart in rw (← a_is, ← b_is) (omega arith, omega arith)
