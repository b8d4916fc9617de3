-- The costs of a tree by rising index: what is stored for a node, from what is stored below it, are its costs by recursion. From the laws
-- of the pass and on a node's numbers.
use mathlib.Core.Path.{◌≡◌, refl, sym, ◌∙◌}
use mathlib.Core.Bool.{true}
use mathlib.Core.List.{List}
use mathlib.Core.Logic.{◌≢◌}
use Prim.Native.Nat.{ℕ, zero, suc, ◌+◌, ◌-◌, ◌*◌, ◌/◌, ◌%◌, ◌<◌}
use native.Mathlib.Omega.{arith}
use Rattle.graph.specs.Finite.{if_equal}
use Rattle.graph.specs.Graph.{Graph, node, word}
use Rattle.moves.specs.Tree.{is_root, root_of}
use Rattle.moves.specs.Cost.{inner, bit_cost}
use Rattle.state.specs.State.{field}
use Rattle.trees.specs.Filling.{Stored}
use Rattle.trees.specs.Costing.{inner_at, cost_at, tree_cost, CostedBelow}
use Rattle.trees.proofs.CostTable.{costs_are}
use Rattle.trees.proofs.Passes.{RisenTo, risen_inside, risen_ready, risen_step}
use Rattle.moves.proofs.Local.{bit_named}
use Rattle.trees.proofs.Ready.{Ready, inner_same, named_below, named_in}

-- what is stored for node v are its costs
abbrev pub CostRight : Graph → List ℕ → ℕ → ℕ → Type 0
CostRight h ls v x = (s : ℕ) → s < 2 → if_equal s 0 (x % 2) (x / 2 % 2) ≡ tree_cost h ls (node h v) s

pub costed_below : (h : Graph) (ls sc : List ℕ) (r n : ℕ) → ((w : ℕ) → w < n → root_of h (node h w) ≡ node h r → CostRight h ls w (field sc w 4)) → CostedBelow h ls sc (node h r) n
unfolding cost_at
costed_below h ls sc r n done v s l k t = let e : node h v - (h.I + 1) ≡ v = omega arith in rw e (done v l t s k)

module _ (h : Graph) (ls sc₀ : List ℕ) (rd : Ready h sc₀) (r : ℕ) (rn : r < h.N) (rt : is_root h (node h r) ≡ true) where
  module _ (sc : List ℕ) (v : ℕ) (ct : RisenTo h (CostRight h ls) sc₀ sc r v) (vr : v ≢ r) where
    below : v < h.N
    below = risen_inside h (CostRight h ls) sc₀ rd r rn rt sc v ct vr

    ready : Ready h sc
    ready = risen_ready h (CostRight h ls) sc₀ rd r rn rt sc v ct vr

    -- the costs that v looks at are stored
    bits_stored : (s : ℕ) → s < 2 → bit_cost h ls (inner_at h.I sc) (cost_at h.I sc) v s ≡ tree_cost h ls (node h v) s
    bits_stored s l =
        bit_named ls h h (inner_at h.I sc) (inner h) (cost_at h.I sc) (tree_cost h ls) v refl refl (λ i k. refl) (λ i k. refl)
        (λ i k e. inner_same h sc ready _ (omega (arith, named_below h rd.admitted v i below k e)))
        (λ i t k e n m.
        let a = named_in h rd.admitted v i below k e n in
        let b = named_below h rd.admitted v i below k e in
        let u : ℕ = word h (3 * v + i) / 2 in
        let q : node h (u - (h.I + 1)) ≡ u = omega arith in
        (rw q at (costed_below h ls sc r v ct.done (u - (h.I + 1)) t (omega arith) m (rw q (a.1 ∙ ct.here)))))
        s ∙
        sym (costs_are h ls rd.admitted v s below l)

    cost_right : (x : ℕ) → x % 2 ≡ bit_cost h ls (inner_at h.I sc) (cost_at h.I sc) v 0 → x / 2 % 2 ≡ bit_cost h ls (inner_at h.I sc) (cost_at h.I sc) v 1 → CostRight h ls v x
    unfolding if_equal
    cost_right x b₀ b₁ zero l = b₀ ∙ bits_stored 0 l
    cost_right x b₀ b₁ (suc zero) l = b₁ ∙ bits_stored 1 l
    cost_right x b₀ b₁ (suc (suc s)) l = absurd (omega arith)

    pub costs_step : (sc' : List ℕ) (x : ℕ) → Stored v 4 x sc sc' → x % 2 ≡ bit_cost h ls (inner_at h.I sc) (cost_at h.I sc) v 0
        → x / 2 % 2 ≡ bit_cost h ls (inner_at h.I sc) (cost_at h.I sc) v 1 → (w : ℕ) → w ≡ field sc' v 6 → RisenTo h (CostRight h ls) sc₀ sc' r w × (v < w)
    costs_step sc' x st b₀ b₁ = risen_step h (CostRight h ls) sc₀ rd r rn rt sc v ct vr sc' x st (cost_right x b₀ b₁)
