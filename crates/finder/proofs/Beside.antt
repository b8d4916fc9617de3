-- The pass does not look at outputs: it comes to the same with them beside it. By induction over the definitions.
use mathlib.Core.Path.{◌≡◌, refl, sym, ap, ◌∙◌}
use mathlib.Core.Bool.{true, false, cond, ◌||◌}
use mathlib.Core.Logic.{⊎_elim}
use mathlib.Core.List.{List, [], ◌∷◌}
use Prim.Native.Nat.{ℕ, zero, suc, ◌+◌, ◌-◌, ◌*◌, ◌/◌}
use lib.ListN.{get_or}
use Rattle.graph.specs.Graph.{Graph, graph_of, node, is_edge, is_xor}
use Rattle.graph.specs.Value.{node_value}
use Rattle.graph.proofs.Cases.{true_or_false}
use Rattle.evaluation.specs.Inner.{nodes_of}
use Rattle.hidden.specs.Truth.{Triple, leaks, node_byte, over, truth}
use Rattle.hidden.specs.Majority.{is_majority, rewired, majority_of, made}
use Rattle.hidden.specs.Find.{reaches, near_below, near, triples, first_made, is_locked, is_plain, passed}

module _ (o : ℕ) (os : List ℕ) where
  -- a graph with these outputs in place of its own
  abbrev beside : Graph → Graph
  beside g = graph_of g.I g.N o g.nodes os

  over_beside : (g : Graph) (t : Triple) (k : ℕ) → over (beside g) t k ≡ over g t k
  unfolding over node_byte leaks is_edge node_value is_xor
  over_beside g t zero = refl
  over_beside g t (suc k) = rw (over_beside g t k)

  truth_beside : (g : Graph) (t : Triple) (u : ℕ) → truth (beside g) t u ≡ truth g t u
  unfolding truth
  truth_beside g t u = ap (λ (l : List ℕ). get_or l u 0) (over_beside g t g.N)

  made_beside : (g : Graph) (t : Triple) (u : ℕ) → made (beside g) t u ≡ beside (made g t u)
  unfolding made majority_of rewired
  made_beside g t u = rw (truth_beside g t u)

  first_beside : (g : Graph) (u : ℕ) (ts : List Triple) → first_made (beside g) u ts ≡ beside (first_made g u ts)
  unfolding first_made
  first_beside g u [] = refl
  first_beside g u (t ∷ ts) =
      rw (truth_beside g t u)
      (⊎_elim
      (λ (e : is_majority (truth g t u) ≡ true). rw e (made_beside g t u))
      (λ (e : is_majority (truth g t u) ≡ false). rw e (first_beside g u ts))
      (true_or_false (is_majority (truth g t u))))

  reaches_beside : (g : Graph) (k u i : ℕ) → reaches (beside g) k u i ≡ reaches g k u i
  unfolding reaches is_edge
  reaches_beside g zero u i = refl
  reaches_beside g (suc k) u i =
      rw (
        reaches_beside g k (get_or g.nodes (3 * (u - (g.I + 1))) 0 / 2) i,
        reaches_beside g k (get_or g.nodes (3 * (u - (g.I + 1)) + 1) 0 / 2) i,
        reaches_beside g k (get_or g.nodes (3 * (u - (g.I + 1)) + 2) 0 / 2) i,
      )

  near_beside : (g : Graph) (u n : ℕ) → near_below (beside g) u n ≡ near_below g u n
  unfolding near_below
  near_beside g u zero = refl
  near_beside g u (suc n) = rw (near_beside g u n, reaches_beside g 3 u (suc n))

  plain_beside : (g : Graph) (v : ℕ) → is_plain (beside g) v ≡ is_plain g v
  unfolding is_plain is_xor
  plain_beside g v = refl

  step_beside : (g : Graph) (ls : List ℕ) (v : ℕ)
      → cond (is_locked ls v || is_plain (beside g) v) (beside g) (first_made (beside g) (node g v) (triples (near (beside g) (node g v))))
      ≡ beside (cond (is_locked ls v || is_plain g v) g (first_made g (node g v) (triples (near g (node g v)))))
  unfolding near
  step_beside g ls v =
      rw (plain_beside g v, near_beside g (node g v) (node g v - 1), first_beside g (node g v) (triples (near_below g (node g v) (node g v - 1))))
      (⊎_elim
      (λ (e : (is_locked ls v || is_plain g v) ≡ true). rw e)
      (λ (e : (is_locked ls v || is_plain g v) ≡ false). rw e)
      (true_or_false (is_locked ls v || is_plain g v)))

  pub passed_beside : (g : Graph) (ls : List ℕ) (n : ℕ) → passed (beside g) ls n ≡ beside (passed g ls n)
  unfolding passed
  passed_beside g ls zero = refl
  passed_beside g ls (suc n) = rw (passed_beside g ls n) (step_beside (passed g ls n) ls n)

-- with the outputs that were there
pub with_outputs : (i n o : ℕ) (ns ns' os ls : List ℕ) → nodes_of i n ns' ≡ passed (nodes_of i n ns) ls n → graph_of i n o ns' os ≡ passed (graph_of i n o ns os) ls n
with_outputs i n o ns ns' os ls e = ap (beside o os) e ∙ sym (passed_beside o os (nodes_of i n ns) ls n)
