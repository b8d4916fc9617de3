-- The first least pair by both nodes' numbers is the best of the pair, and its two moves made one after the other are its choice. From the
-- laws of two moves at different nodes and the pair's decision.
use mathlib.Core.Path.{◌≡◌, refl, sym, ap, ◌∙◌, subst}
use mathlib.Core.Bool.{Bool, true, false, cond, ◌&&◌}
use mathlib.Core.List.{List, [], ◌∷◌}
use mathlib.Core.Logic.{⊎_elim}
use Prim.Native.Nat.{ℕ, ◌+◌, ◌-◌, ◌*◌, ◌/◌, ◌≤◌, ◌<◌}
use native.Mathlib.Omega.{arith}
use borrow.Author.Tests.{lt-ltb, le-ltb, leb-true}
use lib.Dec.{leb}
use lib.IntN.{pos}
use Rattle.graph.specs.Answer.{gained, outcome}
use Rattle.graph.specs.Count.{C}
use Rattle.graph.specs.Graph.{Graph, node, word, is_edge, is_xor}
use Rattle.graph.proofs.DifferenceSum.{no_difference}
use Rattle.graph.proofs.Cases.{lt_or_le, true_or_false}
use Rattle.graph.proofs.Edge.{edge_early, third_majority}
use Rattle.moves.specs.Apply.{none, at, put, apply}
use Rattle.moves.specs.Call.{moved, best_at, rewrite, is_node, named_by, pair_rewrite, word_fault}
use Rattle.moves.specs.Decide.{numbers_of, naming, pair_cost, FirstPair}
use Rattle.moves.specs.Rows.{kind_moves, moves_at}
use Rattle.moves.specs.declared.decide.NodeNumbers.{NodeNumbers}
use Rattle.moves.proofs.Kept.{rewrite_graph}
use Rattle.moves.proofs.Made.{pair_apply}
use Rattle.moves.proofs.NodeBest.{pair_best}
use Rattle.moves.proofs.Readers.{both_true}
use Rattle.moves.proofs.Moves.{moves_no_more}
use Rattle.state.specs.State.{stands, Ordered}
use Rattle.state.specs.Step.{Made, Parted}
use Rattle.state.specs.declared.moving.Step.{Step}
use Rattle.state.proofs.Alike.{alike_kind_moves, alike_is_node}
use Rattle.state.proofs.Stands.{stands_alike, stands_admitted}
use Rattle.state.proofs.Stores.{kept_same, kept_then}
use Rattle.state.proofs.Counting.{moves_now, node_now, within_now}

module _ (g : Graph) (ls sc : List ℕ) (o : Ordered g sc) (p v : ℕ) (d : p < v) (l : v < g.N) where
  abbrev h : Graph
  h = stands g sc

  abbrev pair : List ℕ
  pair = node g p ∷ node g v ∷ []

  pub naming_now : naming h v (node h p) ≡ naming g v (node g p)
  unfolding naming
  naming_now =
      let a = stands_alike g sc o.admitted in
      rw (a.wired (3 * v + 0), a.wired (3 * v + 1), a.wired (3 * v + 2), node_now g ls sc o p (omega arith))

  -- the decision
  module _ (n m : NodeNumbers) (w : List ℕ) (en : n ≡ numbers_of h ls p) (em : m ≡ numbers_of h ls v) (ew : w ≡ naming g v (node g p)) (a k : ℕ)
      (f : FirstPair (pair_cost n m w) n.moves m.moves a k) where
    pub pair_fits : (a < moves_at g ls (node g p)) × (k < moves_at g ls (node g v))
    pair_fits = omega (arith, f.below, f.fits, moves_now g ls sc o p (omega arith) n en, moves_now g ls sc o v l m em)

    first_now : FirstPair (pair_cost (numbers_of h ls p) (numbers_of h ls v) (naming h v (node h p))) (moves_at h ls (node h p)) (moves_at h ls (node h v)) a k
    unfolding numbers_of
    first_now = subst (λ x. FirstPair (pair_cost (numbers_of h ls p) (numbers_of h ls v) x) (moves_at h ls (node h p)) (moves_at h ls (node h v)) a k) (ew ∙ sym naming_now) (subst (λ x. FirstPair (pair_cost x (numbers_of h ls v) w) x.moves (moves_at h ls (node h v)) a k) en (subst (λ x. FirstPair (pair_cost n x w) n.moves x.moves a k) em f))

    pub best_pair : a ∷ k ∷ [] ≡ best_at h ls pair
    best_pair =
        subst (λ u. a ∷ k ∷ [] ≡ best_at h ls (u ∷ node g v ∷ [])) (node_now g ls sc o p (omega arith))
        (subst (λ u. a ∷ k ∷ [] ≡ best_at h ls (node h p ∷ u ∷ [])) (node_now g ls sc o v l)
        (pair_best h ls (stands_admitted g sc o.admitted) p v d (within_now g ls sc o v l) a k first_now))

  -- both moves
  module _ (a k : ℕ) (pa : a < moves_at g ls (node g p)) (pk : k < moves_at g ls (node g v)) (s₁ : List ℕ) (c₁ : ℕ) (m₁ : Made sc g s₁ (apply h (at none (node g p) a)) c₁) where
    pub still_counts : c₁ ≡ C (stands g s₁)
    still_counts = m₁.count ∙ ap C (sym m₁.became.stands_for)

    module _ (b : a ∷ k ∷ [] ≡ best_at h ls pair) (s₂ : List ℕ) (c₂ : ℕ) (m₂ : Made s₁ g s₂ (apply (stands g s₁) (at none (node g v) k)) c₂) where
      both_moved : apply (stands g s₁) (at none (node g v) k) ≡ moved h pair (best_at h ls pair)
      unfolding moved put
      both_moved =
          let x : (w m : ℕ) → m < moves_at g ls (node g w) → m < kind_moves h (node h w) = λ w m q. omega (arith, q, alike_kind_moves g h (stands_alike g sc o.admitted) w, moves_no_more g ls (node g w)) in
          ap (λ y. apply y (at none (node g v) k)) m₁.became.stands_for ∙
          ((λ i. apply (apply h (at none (sym (node_now g ls sc o p (omega arith)) i) a)) (at none (sym (node_now g ls sc o v l) i) k)) ∙
          pair_apply h (stands_admitted g sc o.admitted) p v a k (omega arith) (x p a pa) (x v k pk) ∙
          (λ i. apply h (at (at none (node_now g ls sc o p (omega arith) i) a) (node_now g ls sc o v l i) k))) ∙
          ap (λ ms. apply h (put none pair ms)) b

      pub pair_made : Made sc g s₂ (moved h pair (best_at h ls pair)) c₂
      pair_made =
          record {
            became = record { ordered = m₂.became.ordered; stands_for = m₂.became.stands_for ∙ both_moved; kept = kept_then sc s₁ s₂ m₁.became.kept m₂.became.kept };
            count = m₂.count ∙ ap C both_moved;
          }

no_fault : (b : Bool) → ◌≡◌ {A = ℕ} (cond b 0 7) 0 → b ≡ true
no_fault true e = refl
no_fault false e = absurd (omega arith)

-- the pair call at a word: it names a node, or none
module _ (g : Graph) (ls sc : List ℕ) (o : Ordered g sc) (v k : ℕ) (l : v < g.N) where
  abbrev named : ℕ
  named = word g (3 * v + (k - 1)) / 2

  named_now : named_by (stands g sc) (node g v) k ≡ named
  unfolding named_by
  named_now =
      let a = stands_alike g sc o.admitted in
      let e : node g v - (g.I + 1) ≡ v = omega arith in
      a.wired (3 * (node g v - ((stands g sc).I + 1)) + (k - 1)) ∙ ap (λ i. word g (3 * (node g v - (i + 1)) + (k - 1)) / 2) a.same_I ∙ ap (λ i. word g (3 * i + (k - 1)) / 2) e

  is_node_lem : (u : ℕ) → is_node (stands g sc) u ≡ is_node g u
  is_node_lem = alike_is_node g (stands g sc) (stands_alike g sc o.admitted)

  low_none : named ≤ g.I → is_node g named ≡ false
  unfolding is_node
  low_none q = rw (le-ltb g.I named q)

  high_node_lem : g.I < named → named < node g g.N → is_node g named ≡ true
  unfolding is_node
  high_node_lem q r = rw (lt-ltb g.I named q, lt-ltb named (node g g.N) r)

  none_outcome : named ≤ g.I → pair_rewrite (stands g sc) ls (node g v) k ≡ outcome (gained [] (pos 0) (pos 0)) (stands g sc)
  unfolding pair_rewrite
  none_outcome q = rw (named_now, is_node_lem named, low_none q)

  pair_outcome : (p : ℕ) → p < g.N → named ≡ node g p → pair_rewrite (stands g sc) ls (node g v) k ≡ rewrite (stands g sc) ls (node g p ∷ node g v ∷ [])
  unfolding pair_rewrite
  pair_outcome p q e = rw (named_now, is_node_lem named, high_node_lem (omega arith) (omega arith), e)

  -- it names none: nothing changes
  pub pair_none : named ≤ g.I → (s : Step) → s.count ≡ C (stands g sc) → s.before ≡ 0 → s.after ≡ 0
      → Made sc g sc (pair_rewrite (stands g sc) ls (node g v) k).graph s.count × Parted (pair_rewrite (stands g sc) ls (node g v) k) s
  pair_none q s e x y =
      rw (none_outcome q) (
        record { became = record { ordered = o; stands_for = refl; kept = kept_same sc }; count = e },
        record { others = rw (x, y) (sym (no_difference 0)); few = omega arith; few_after = omega arith },
      )

  -- it names node p: the pair's best
  pub pair_is : (p : ℕ) → p < g.N → named ≡ node g p → (sc' : List ℕ) (s : Step)
      → Made sc g sc' (moved (stands g sc) (node g p ∷ node g v ∷ []) (best_at (stands g sc) ls (node g p ∷ node g v ∷ []))) s.count × Parted (rewrite (stands g sc) ls (node g p ∷ node g v ∷ [])) s
      → Made sc g sc' (pair_rewrite (stands g sc) ls (node g v) k).graph s.count × Parted (pair_rewrite (stands g sc) ls (node g v) k) s
  pair_is p q e sc' s m =
      rw (pair_outcome p q e) (
        subst (λ x. Made sc g sc' x s.count) (sym (rewrite_graph (stands g sc) ls (stands_admitted g sc o.admitted) (node g p ∷ node g v ∷ []))) m.0,
        m.1,
      )

  test : word_fault g (node g v) k ≡ 0 → leb 1 k && leb k (cond (is_xor g v) 2 3) ≡ true
  unfolding word_fault
  test w = no_fault (leb 1 k && leb k (cond (is_xor g v) 2 3)) (subst (λ i. ◌≡◌ {A = ℕ} (cond (leb 1 k && leb k (cond (is_xor g i) 2 3)) 0 7) 0) (omega arith) w)

  -- a word that the node has is an edge, so it names a lower index
  module _ (w : word_fault g (node g v) k ≡ 0) where
    pub has_word : (1 ≤ k) × (k ≤ 3) × (is_edge g (3 * v + (k - 1)) ≡ true)
    has_word =
        let b = both_true (leb 1 k) (leb k (cond (is_xor g v) 2 3)) (test w) in
        let lo : 1 ≤ k = leb-true 1 k b.0 in
        let hi : k ≤ cond (is_xor g v) 2 3 = leb-true k (cond (is_xor g v) 2 3) b.1 in
        ⊎_elim
        (λ (x : is_xor g v ≡ true). let z : k ≤ 2 = rw x at hi in (lo, omega arith, edge_early g (3 * v + (k - 1)) (omega arith)))
        (λ (x : is_xor g v ≡ false).
        let z : k ≤ 3 = rw x at hi in
        ⊎_elim
        (λ (q : k < 3). (lo, z, edge_early g (3 * v + (k - 1)) (omega arith)))
        (λ (q : 3 ≤ k). (lo, z, ap (is_edge g) (omega arith) ∙ third_majority g v x))
        (lt_or_le k 3))
        (true_or_false (is_xor g v))

    -- the node that it names
    pub named_below : named < node g v
    named_below = let t = has_word in omega (arith, o.admitted.below (3 * v + (k - 1)) (omega arith) t.2)
