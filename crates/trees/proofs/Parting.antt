-- What the tree call saves on other edges: the root's odd readers, which stand in scratch before and after. From the law of a tree's
-- other edges (crate moves) and the order of the state.
use mathlib.Core.Path.{◌≡◌, sym, ap, ◌∙◌}
use mathlib.Core.Bool.{true}
use mathlib.Core.List.{List, []}
use Prim.Native.Nat.{ℕ, ◌≤◌, ◌<◌}
use native.Mathlib.Omega.{arith}
use Rattle.graph.specs.Graph.{Graph, node}
use Rattle.graph.specs.Turned.{turned_by}
use Rattle.graph.specs.Answer.{others_of}
use Rattle.graph.specs.Finite.{difference}
use Rattle.moves.specs.Call.{rewrite}
use Rattle.moves.specs.Cost.{shown}
use Rattle.moves.specs.Decide.{numbers_of}
use Rattle.moves.specs.Tree.{is_root, tree}
use Rattle.moves.proofs.Deciding.{numbers_low}
use Rattle.moves.proofs.Rooted.{tree_best_others}
use Rattle.state.specs.State.{field, stands, Ordered}
use Rattle.state.specs.Step.{Made, Parted}
use Rattle.state.proofs.Alike.{alike_is_root}
use Rattle.state.proofs.Stands.{stands_alike, stands_admitted}
use Rattle.trees.specs.Stepping.{tree_moved}

odd_few : (g : Graph) (sc : List ℕ) → Ordered g sc → (v : ℕ) → v < g.N → field sc v 1 ≤ 304096
unfolding numbers_of stands turned_by
odd_few g sc o v l = let k = (numbers_low (stands g sc) [] v (stands_admitted g sc o.admitted)).numbers in omega (arith, o.odd v l, k.some, k.few)

module _ (g : Graph) (ls sc : List ℕ) (o : Ordered g sc) (v : ℕ) (l : v < g.N) where
  others_now : is_root g (node g v) ≡ true → difference (shown (stands g sc) (node g v) 0) (shown (tree_moved (stands g sc) ls (node g v)) (node g v) 0) ≡ others_of (rewrite (stands g sc) ls (tree (stands g sc) (node g v))).answer
  unfolding stands turned_by
  others_now t =
      let h : Graph = stands g sc in
      let a = stands_alike g sc o.admitted in
      sym (tree_best_others h (stands_admitted g sc o.admitted) v l (alike_is_root g h a (node g v) ∙ t) ls)

  pub tree_parted : is_root g (node g v) ≡ true → (sc' : List ℕ) (c : ℕ) → Made sc g sc' (tree_moved (stands g sc) ls (node g v)) c
      → (b a : ℕ) → b ≡ field sc v 1 → a ≡ field sc' v 1 → Parted (rewrite (stands g sc) ls (tree (stands g sc) (node g v))) (record { count = c; before = b; after = a })
  tree_parted t sc' c m b a p q =
      let x : b ≡ shown (stands g sc) (node g v) 0 = p ∙ o.odd v l in
      let y : a ≡ shown (tree_moved (stands g sc) ls (node g v)) (node g v) 0 =
      q ∙ m.became.ordered.odd v l ∙ ap (λ (k : Graph). shown k (node g v) 0) m.became.stands_for in
      record {
        others = sym (ap (λ (z : ℕ). difference z a) x ∙ ap (λ (z : ℕ). difference (shown (stands g sc) (node g v) 0) z) y ∙ others_now t);
        few = omega (arith, p, odd_few g sc o v l);
        few_after = omega (arith, q, odd_few g sc' m.became.ordered v l);
      }
