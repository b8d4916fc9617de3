-- What the calls of a step save on other edges, in the graph that the state stands for. From the laws by odd readers (crate moves).
use mathlib.Core.Path.{◌≡◌, sym, ◌∙◌, subst}
use mathlib.Core.List.{List, [], ◌∷◌}
use Prim.Native.Nat.{ℕ, ◌<◌}
use native.Mathlib.Omega.{arith}
use Rattle.graph.specs.Answer.{Outcome, others_of}
use Rattle.graph.specs.Finite.{difference}
use Rattle.graph.specs.Graph.{Graph, node}
use Rattle.choice.specs.Inner.{FirstBelow}
use Rattle.moves.specs.Call.{best_at, rewrite}
use Rattle.moves.specs.Decide.{numbers_of, naming, cost_of}
use Rattle.moves.specs.Outside.{NodeOdds, PairOdds}
use Rattle.moves.specs.declared.decide.NodeNumbers.{NodeNumbers}
use Rattle.moves.specs.declared.gains.Odds.{Odds}
use Rattle.moves.proofs.NodeBest.{node_best}
use Rattle.moves.proofs.PairOthers.{pair_best_others}
use Rattle.moves.proofs.Rooted.{node_best_others}
use Rattle.state.specs.State.{stands, Ordered}
use Rattle.state.specs.Step.{Parted}
use Rattle.state.specs.declared.moving.Step.{Step}
use Rattle.state.proofs.Stands.{stands_admitted}
use Rattle.state.proofs.Counting.{node_now, within_now, first_now}
use Rattle.state.proofs.Pairs.{naming_now}

module _ (g : Graph) (ls sc : List ℕ) (o : Ordered g sc) (v : ℕ) (l : v < g.N) where
  -- a node call
  pub node_parted : (n : NodeNumbers) (e : n ≡ numbers_of (stands g sc) ls v) (m : ℕ) (f : FirstBelow (cost_of n) n.moves m) (d : Odds) → NodeOdds n m d → (c : ℕ)
      → Parted (rewrite (stands g sc) ls (node g v ∷ [])) (record { count = c; before = d.before; after = d.after })
  node_parted n e m f d r c =
      record {
        others =
            subst (λ u. others_of (rewrite (stands g sc) ls (u ∷ [])).answer ≡ difference d.before d.after) (node_now g ls sc o v l)
            (node_best_others (stands g sc) (stands_admitted g sc o.admitted) v ls (within_now g ls sc o v l) m
            (node_best (stands g sc) ls (stands_admitted g sc o.admitted) v (within_now g ls sc o v l) m (first_now g ls sc o v l n e m f)) d (subst (λ x. NodeOdds x m d) e r));
        few = r.few;
        few_after = r.few_after;
      }

-- a pair of nodes
module _ (g : Graph) (ls sc : List ℕ) (o : Ordered g sc) (p v : ℕ) (d : p < v) (l : v < g.N) where
  pub pair_parted : (n m : NodeNumbers) (w : List ℕ) → n ≡ numbers_of (stands g sc) ls p → m ≡ numbers_of (stands g sc) ls v → w ≡ naming g v (node g p)
      → (a k : ℕ) → a ∷ k ∷ [] ≡ best_at (stands g sc) ls (node g p ∷ node g v ∷ []) → (x : Odds) → PairOdds n m w a k x → (c : ℕ)
      → Parted (rewrite (stands g sc) ls (node g p ∷ node g v ∷ [])) (record { count = c; before = x.before; after = x.after })
  pair_parted n m w en em ew a k b x r c =
      let h : Graph = stands g sc in
      let i : node g p ≡ node h p = sym (node_now g ls sc o p (omega arith)) in
      let j : node g v ≡ node h v = sym (node_now g ls sc o v l) in
      let y : PairOdds (numbers_of h ls p) (numbers_of h ls v) (naming h v (node h p)) a k x =
      subst (λ z. PairOdds (numbers_of h ls p) (numbers_of h ls v) z a k x) (ew ∙ sym (naming_now g ls sc o p v d l)) (subst (λ z. PairOdds (numbers_of h ls p) z w a k x) em (subst (λ z. PairOdds z m w a k x) en r)) in
      record {
        others =
            subst (λ (us : List ℕ). others_of (rewrite h ls us).answer ≡ difference x.before x.after) (λ t. sym i t ∷ sym j t ∷ [])
            (pair_best_others h ls (stands_admitted g sc o.admitted) p v d (within_now g ls sc o v l) a k
            (subst (λ (us : List ℕ). a ∷ k ∷ [] ≡ best_at h ls us) (λ t. i t ∷ j t ∷ []) b) x y);
        few = r.few;
        few_after = r.few_after;
      }

-- whatever the count
pub same_parted : (o : Outcome) (s : Step) (c : ℕ) → Parted o s → Parted o (record { count = c; before = s.before; after = s.after })
same_parted o s c p = record { others = p.others; few = p.few; few_after = p.few_after }
