-- What the call's choice means: every other permitted one has fewer majorities with just one complemented input, or as many and at least
-- the same C; and edges other than the tree's own words add what they added.
use mathlib.Core.Path.{◌≡◌, refl, ap, ◌∙◌}
use mathlib.Core.Bool.{true}
use mathlib.Core.List.{List, map}
use mathlib.Core.Logic.{inl, inr, ⊎_elim, ◌≢◌}
use Prim.Native.Nat.{ℕ, ◌≤◌, ◌<◌}
use native.Mathlib.Omega.{arith}
use Rattle.graph.specs.Admission.{Admitted}
use Rattle.graph.specs.Graph.{Graph, node}
use Rattle.graph.proofs.Cases.{lt_or_le, eq_or_ne}
use Rattle.graph.proofs.DifferenceSum.{no_difference}
use Rattle.choice.specs.Inner.{zeros}
use Rattle.choice.proofs.Best.{Best, best_is}
use Rattle.moves.specs.Apply.{Choice, seen, apply, none, put}
use Rattle.moves.specs.Call.{moved}
use Rattle.moves.specs.Cost.{shown}
use Rattle.graph.specs.Finite.{difference}
use Rattle.moves.specs.Tree.{is_root, tree}
use Rattle.moves.proofs.Compose.{seen_node}
use Rattle.moves.proofs.Moves.{some_fit}
use Rattle.moves.proofs.Rooted.{tree_rooted, root_others}
use Rattle.resistive.specs.Resistive.{singles, key, still_at, best_still, MostSingle}
use Rattle.resistive.specs.Promises.{NoOthers}
use Rattle.resistive.proofs.Misses.{singles_few, C_few}
use Rattle.resistive.proofs.Still.{still_at_pos, still_at_root, put_below}

still_is : (g : Graph) (ls : List ℕ) (r : ℕ) → Best (λ ms. key g r (moved g (tree g r) ms)) (map (still_at g ls r) (tree g r)) (best_still g ls r)
unfolding best_still
still_is g ls r =
    best_is (λ ms. key g r (moved g (tree g r) ms)) (map (still_at g ls r) (tree g r)) (zeros (map (still_at g ls r) (tree g r)))
    (some_fit (still_at g ls r) (still_at_pos g ls r) (tree g r))

-- M-109: every other permitted choice has fewer such nodes, or as many and at least the same C
pub most_single : (g : Graph) (ls : List ℕ) (r : ℕ) → Admitted g → MostSingle g ls r (moved g (tree g r) (best_still g ls r))
unfolding moved key
most_single g ls r adm l f =
    let us : List ℕ = tree g r in
    let b : List ℕ = best_still g ls r in
    let q = (still_is g ls r).none_less l f in
    let x = singles_few g r adm (put none us l) in
    let y = singles_few g r adm (put none us b) in
    let v = C_few g r adm (put none us l) in
    let w = C_few g r adm (put none us b) in
    ⊎_elim
    (λ (s : singles g r (apply g (put none us l)) < singles g r (apply g (put none us b))). inl s)
    (λ (s : singles g r (apply g (put none us b)) ≤ singles g r (apply g (put none us l))).
    ⊎_elim
    (λ (e : singles g r (apply g (put none us l)) ≡ singles g r (apply g (put none us b))). inr (e, omega (arith, q, x, y, v, w)))
    (λ (e : singles g r (apply g (put none us l)) ≢ singles g r (apply g (put none us b))). absurd (omega (arith, q, x, y, v, w)))
    (eq_or_ne (singles g r (apply g (put none us l))) (singles g r (apply g (put none us b)))))
    (lt_or_le (singles g r (apply g (put none us l))) (singles g r (apply g (put none us b))))

-- the root's readers stand, and every other node of the tree is read inside
pub no_others : (g : Graph) (ls : List ℕ) (v : ℕ) → Admitted g → v < g.N → is_root g (node g v) ≡ true → NoOthers g ls (node g v)
no_others g ls v adm h t =
    let us : List ℕ = tree g (node g v) in
    let d : Choice = put none us (best_still g ls (node g v)) in
    let k : d (node g v) < still_at g ls (node g v) (node g v) = put_below (still_at g ls (node g v)) us (best_still g ls (node g v)) none (node g v) (still_is g ls (node g v)).fits (still_at_pos g ls (node g v) (node g v)) in
    let s : seen g d (node g v) ≡ 0 = seen_node g d v h ∙ still_at_root g ls (node g v) v (d (node g v)) refl k in
    root_others g adm us (node g v) (tree_rooted g adm v h t) (best_still g ls (node g v)) ∙ ap (λ (x : ℕ). difference (shown g (node g v) 0) (shown g (node g v) x)) s ∙ no_difference (shown g (node g v) 0)
