-- What a tree call leaves and saves: from what its moves, made in the state and written, leave of both.
use mathlib.Core.Path.{◌≡◌, sym, ap, ◌∙◌}
use mathlib.Core.Bool.{true}
use mathlib.Core.List.{List}
use Prim.Native.Nat.{ℕ, ◌+◌, ◌-◌, ◌<◌}
use native.Mathlib.Omega.{arith}
use Rattle.graph.specs.Graph.{Graph, node}
use Rattle.graph.specs.Count.{C}
use Rattle.graph.specs.Answer.{Answer, others_of, outcome}
use Rattle.graph.specs.Finite.{difference}
use Rattle.moves.specs.Call.{rewrite}
use Rattle.moves.specs.Outside.{saved_by}
use Rattle.moves.specs.Tree.{is_root, tree}
use Rattle.moves.specs.Compose.{IsRoot}
use Rattle.moves.proofs.Split.{rewrite_others, saved_outcome}
use Rattle.state.specs.State.{stands}
use Rattle.state.specs.Step.{Made, Parted}
use Rattle.state.specs.declared.moving.Step.{Step}
use Rattle.trees.specs.Stepping.{tree_moved}

-- the root's own number
pub root_node : (g : Graph) (r v : ℕ) → IsRoot g r → v ≡ r - (g.I + 1) → (v < g.N) × (is_root g (node g v) ≡ true)
root_node g r v i e =
    let q : node g v ≡ r = omega (arith, e, i.after_inputs) in
    (omega (arith, e, i.after_inputs, i.within), rw q i.root)

-- scratch sc stands for g, its step leaves sc', and h is what is written
pub rewrite_is : (g h : Graph) (ls sc sc' : List ℕ) (r v b : ℕ) (s : Step) (x : Answer) → IsRoot g r → v ≡ r - (g.I + 1) → stands g sc ≡ g
    → Made sc g sc' (tree_moved (stands g sc) ls (node g v)) s.count × Parted (rewrite (stands g sc) ls (tree (stands g sc) (node g v))) s → h ≡ tree_moved g ls (node g v)
    → b ≡ C g → x ≡ saved_by b s.count s.before s.after → outcome x h ≡ rewrite g ls (tree g r)
rewrite_is g h ls sc sc' r v b s x i e z m w p q =
    let n : node g v ≡ r = omega (arith, e, i.after_inputs) in
    let k : tree_moved (stands g sc) ls (node g v) ≡ tree_moved g ls r = ap (λ y. tree_moved y ls (node g v)) z ∙ ap (tree_moved g ls) n in
    let t : h ≡ tree_moved g ls r = w ∙ ap (tree_moved g ls) n in
    let c : s.count ≡ C (tree_moved g ls r) = m.0.count ∙ ap C k in
    let d : others_of (rewrite g ls (tree g r)).answer ≡ difference s.before s.after =
    ap (λ (u : ℕ). others_of (rewrite g ls (tree g u)).answer) (sym n) ∙ ap (λ (y : Graph). others_of (rewrite y ls (tree y (node g v))).answer) (sym z) ∙ m.1.others in
    ap (λ (y : Answer). outcome y h) q ∙
    saved_outcome g ls (tree g r) h b s.count s.before s.after t (omega (arith, p, c, ap C t)) (rw t (sym (rewrite_others g ls (tree g r)) ∙ d))
