-- The costs by recursion are costs of all non-roots. From the law that a cost looks only at lower non-roots.
use mathlib.Core.Path.{◌≡◌, refl, sym, ◌∙◌}
use mathlib.Core.Bool.{true}
use mathlib.Core.List.{List, [], ◌∷◌}
use mathlib.Core.Logic.{⊎_elim}
use Prim.Native.Nat.{ℕ, zero, suc, ◌+◌, ◌-◌, ◌*◌, ◌≤◌, ◌<◌}
use native.Mathlib.Omega.{arith}
use native.Mathlib.Nat.{eq-or-lt_of_le}
use borrow.Author.Tests.{ltb-true}
use lib.Dec.{ltb}
use lib.Seq.{get_or-append-add}
use lib.ListN.{length, get_or, length-append, get_or-append}
use Rattle.graph.specs.Admission.{Admitted}
use Rattle.graph.specs.Graph.{Graph, node}
use Rattle.moves.specs.Cost.{inner, node_cost, base_cost, bit_cost, Costs}
use Rattle.moves.proofs.Readers.{both_true}
use Rattle.moves.proofs.Local.{bit_local}
use Rattle.trees.specs.Costing.{cost_in, costs, tree_cost}

module _ (g : Graph) (ls : List ℕ) where
  length_costs : (n : ℕ) → length (costs g ls n) ≡ 2 * n
  unfolding costs
  length_costs zero = refl
  length_costs (suc n) = omega (arith, length-append (costs g ls n) (bit_cost g ls (inner g) (cost_in g (costs g ls n)) n 0 ∷ bit_cost g ls (inner g) (cost_in g (costs g ls n)) n 1 ∷ []), length_costs n)

  costs_old : (n i : ℕ) → i < 2 * n → get_or (costs g ls (suc n)) i 0 ≡ get_or (costs g ls n) i 0
  unfolding costs
  costs_old n i h = get_or-append (costs g ls n) _ 0 i (rw (length_costs n) h)

  costs_new : (n s : ℕ) → s < 2 → get_or (costs g ls (suc n)) (2 * n + s) 0 ≡ bit_cost g ls (inner g) (cost_in g (costs g ls n)) n s
  unfolding costs
  costs_new n s h = rw (← length_costs n) (get_or-append-add (costs g ls n) _ s 0 ∙ two s h)
    where
      two : (s : ℕ) → s < 2 → get_or (bit_cost g ls (inner g) (cost_in g (costs g ls n)) n 0 ∷ bit_cost g ls (inner g) (cost_in g (costs g ls n)) n 1 ∷ []) s 0 ≡ bit_cost g ls (inner g) (cost_in g (costs g ls n)) n s
      two zero h = refl
      two (suc zero) h = refl
      two (suc (suc s)) h = absurd (omega arith)

  costs_kept : (m n i : ℕ) → m ≤ n → i < 2 * m → get_or (costs g ls n) i 0 ≡ get_or (costs g ls m) i 0
  costs_kept m zero i h l = absurd (omega arith)
  costs_kept m (suc n) i h l =
      ⊎_elim (λ (e : m ≡ suc n). rw e) (λ (k : m < suc n). costs_old n i (omega arith) ∙ costs_kept m n i (omega arith) l) (eq-or-lt_of_le h)

  in_costs : (n v s : ℕ) → cost_in g (costs g ls n) (node g v) s ≡ get_or (costs g ls n) (2 * v + s) 0
  unfolding cost_in
  in_costs n v s = let e : node g v - (g.I + 1) ≡ v = omega arith in rw e

  module _ (adm : Admitted g) where
    costs_same : (v : ℕ) → v < g.N → (u s : ℕ) → inner g u ≡ true → u < node g v → s < 2
        → cost_in g (costs g ls v) u s ≡ tree_cost g ls u s
    unfolding cost_in inner tree_cost
    costs_same v h u s i j k = let b : g.I < u = ltb-true _ _ (both_true (ltb g.I u) _ i).0 in sym (costs_kept v g.N _ (omega arith) (omega arith))

    pub costs_are : (v s : ℕ) → v < g.N → s < 2 → tree_cost g ls (node g v) s ≡ bit_cost g ls (inner g) (tree_cost g ls) v s
    unfolding tree_cost
    costs_are v s h l =
        in_costs g.N v s ∙ costs_kept (suc v) g.N (2 * v + s) h (omega arith) ∙ costs_new v s l ∙
        bit_local ls g (inner g) (inner g) v (node g v) (λ i l e. omega (arith, adm.below (3 * v + i) (omega arith) e)) (cost_in g (costs g ls v)) (tree_cost g ls) (λ u l. refl) (costs_same v h) s

    base_low : (c : ℕ → ℕ → ℕ) (v s : ℕ) → s < 2 → base_cost g ls (inner g) c v ≤ node_cost g ls (inner g) c v s
    unfolding base_cost
    base_low c v zero h = omega arith
    base_low c v (suc zero) h = omega arith
    base_low c v (suc (suc s)) h = absurd (omega arith)

    pub costs_hold : Costs g ls (tree_cost g ls) (base_cost g ls (inner g) (tree_cost g ls))
    unfolding bit_cost
    costs_hold v s h l e = omega (arith, costs_are v s h l, base_low (tree_cost g ls) v s l)
