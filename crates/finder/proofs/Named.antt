-- What is read of an admitted graph's index tables: the index that the word names. From the laws on what an index table tells.
use mathlib.Core.Path.{◌≡◌}
use mathlib.Core.Bool.{true}
use mathlib.Core.Logic.{◌≢◌}
use Prim.Native.Nat.{ℕ, ◌+◌, ◌*◌, ◌/◌, ◌<◌}
use native.Mathlib.Omega.{arith}
use Rattle.graph.specs.Admission.{Admitted}
use Rattle.graph.specs.Graph.{Graph, mark, node, word, output, is_edge}
use Rattle.graph.specs.Inner.{Names}
use Rattle.graph.proofs.Edge.{edge_early, edge_third}
use Rattle.graph.proofs.Literals.{names_index}
use Rattle.graph.proofs.Words.{edge_low, out_low}

module _ (g : Graph) (adm : Admitted g) where
  pub word_named : (j u : ℕ) → j < 3 * g.N → is_edge g j ≡ true → Names (word g j) u → (u ≡ word g j / 2) × (u < node g (j / 3))
  word_named j u h e n = let q = names_index n (edge_low g adm j h e) in (q, omega (arith, q, adm.below j h e))

  pub output_named_lem : (j u : ℕ) → j < g.O → Names (output g j) u → (u ≡ output g j / 2) × (u < node g g.N)
  output_named_lem j u h n = let q = names_index n (out_low g adm j h) in (q, omega (arith, q, adm.output_below j h))

  module _ (v u : ℕ) (h : v < g.N) where
    at_node : (j : ℕ) → j / 3 ≡ v → (u ≡ word g j / 2) × (u < node g (j / 3)) → (u ≡ word g j / 2) × (u < node g v)
    at_node j e p = (p.0, omega (arith, e, p.1))

    pub first_named : Names (word g (3 * v)) u → (u ≡ word g (3 * v) / 2) × (u < node g v)
    first_named n = at_node (3 * v) (omega arith) (word_named (3 * v) u (omega arith) (edge_early g (3 * v) (omega arith)) n)

    pub second_named : Names (word g (3 * v + 1)) u → (u ≡ word g (3 * v + 1) / 2) × (u < node g v)
    second_named n = at_node (3 * v + 1) (omega arith) (word_named (3 * v + 1) u (omega arith) (edge_early g (3 * v + 1) (omega arith)) n)

    pub third_named : word g (3 * v + 2) ≢ mark → Names (word g (3 * v + 2)) u → (u ≡ word g (3 * v + 2) / 2) × (u < node g v)
    third_named d n = at_node (3 * v + 2) (omega arith) (word_named (3 * v + 2) u (omega arith) (edge_third g (3 * v + 2) (omega arith) d) n)
