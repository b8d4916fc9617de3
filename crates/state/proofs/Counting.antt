-- C of the graph that a state stands for, followed move by move through the numbers of a node. From the law that a move
-- changes only its node's own words and readers.
use mathlib.Core.Path.{◌≡◌, refl, sym, ap, ◌∙◌, subst}
use mathlib.Core.Bool.{Bool}
use mathlib.Core.List.{List, [], ◌∷◌}
use Prim.Native.Nat.{ℕ, ◌+◌, ◌≤◌, ◌<◌}
use native.Mathlib.Omega.{arith}
use Rattle.graph.specs.Admission.{Admitted}
use Rattle.graph.specs.Count.{C, readers}
use Rattle.graph.specs.Graph.{Graph, node, is_xor}
use Rattle.graph.proofs.Adds.{C_le}
use Rattle.choice.specs.Inner.{FirstBelow}
use Rattle.moves.specs.Apply.{none, at, put, apply}
use Rattle.moves.specs.Call.{moved, best_at}
use Rattle.moves.specs.Cost.{shown}
use Rattle.moves.specs.Decide.{own_costs, cost_of, numbers_of, Counted}
use Rattle.moves.specs.Rows.{moves_at}
use Rattle.moves.specs.declared.decide.NodeNumbers.{NodeNumbers}
use Rattle.moves.proofs.Deciding.{numbers_low}
use Rattle.moves.proofs.Kept.{apply_idle}
use Rattle.moves.proofs.NodeBest.{node_cost_lem, zero_is, node_best}
use Rattle.moves.proofs.Step.{at_zero}
use Rattle.state.specs.State.{field, stands, Ordered}
use Rattle.state.proofs.Alike.{alike_xor, alike_moves_at, alike_readers}
use Rattle.state.specs.Step.{Made}
use Rattle.state.proofs.Stands.{stands_alike, stands_admitted}
use Rattle.state.proofs.Stores.{kept_same}

-- at move 0 nothing changes
pub apply_zero : (h : Graph) (u : ℕ) → Admitted h → apply h (at none u 0) ≡ h
apply_zero h u adm = ap (apply h) (at_zero none u refl) ∙ apply_idle h none adm (λ w. refl)

pub C_few : (h : Graph) → Admitted h → C h ≤ 304096
C_few h adm = omega (arith, C_le h, adm.few_nodes, adm.few_outputs)

module _ (h : Graph) (ls : List ℕ) (adm : Admitted h) (v : ℕ) (l : v < h.N) where
  pub cost_within : cost_of (numbers_of h ls v) 0 ≤ C h
  cost_within = omega (arith, node_cost_lem h ls adm v l 0, zero_is h ls adm v l)

  pub count_is : (m c r : ℕ) → c ≡ C h → r + cost_of (numbers_of h ls v) 0 ≡ c + cost_of (numbers_of h ls v) m → r ≡ C (apply h (at none (node h v) m))
  count_is m c r p e = omega (arith, p, e, node_cost_lem h ls adm v l 0, node_cost_lem h ls adm v l m, zero_is h ls adm v l)

-- what is at hand in scratch and tables, with the locks ls
module _ (g : Graph) (ls sc : List ℕ) (o : Ordered g sc) (v : ℕ) (l : v < g.N) where
  pub numbers_are : (x : Bool) (n : ℕ) (z : List ℕ) (r d : ℕ) → x ≡ is_xor g v → n ≡ moves_at g ls (node g v) → z ≡ own_costs (stands g sc) v → r ≡ field sc v 0 → d ≡ field sc v 1
      → ◌≡◌ {A = NodeNumbers} (record { xor = x; moves = n; costs = z; readers = r; odd = d }) (numbers_of (stands g sc) ls v)
  unfolding numbers_of
  numbers_are x n z r d ex en ez er ed =
      let a = stands_alike g sc o.admitted in
      let u : node g v ≡ node (stands g sc) v = ap (λ i. i + 1 + v) (sym a.same_I) in
      let px : x ≡ is_xor (stands g sc) v = ex ∙ sym (alike_xor g (stands g sc) a v) in
      let pn : n ≡ moves_at (stands g sc) ls (node (stands g sc) v) = en ∙ sym (alike_moves_at g (stands g sc) a ls v) in
      let pr : r ≡ readers (stands g sc) (node (stands g sc) v) = er ∙ o.reads v l ∙ sym (alike_readers g (stands g sc) a (node g v)) ∙ ap (readers (stands g sc)) u in
      let pd : d ≡ shown (stands g sc) (node (stands g sc) v) 0 = ed ∙ o.odd v l ∙ ap (λ w. shown (stands g sc) w 0) u in
      λ i. record { xor = px i; moves = pn i; costs = ez i; readers = pr i; odd = pd i }

  -- the numbers have as many moves as the node
  pub moves_now : (n : NodeNumbers) → n ≡ numbers_of (stands g sc) ls v → n.moves ≡ moves_at g ls (node g v)
  unfolding numbers_of
  moves_now n e = ap (λ x. x.moves) e ∙ alike_moves_at g (stands g sc) (stands_alike g sc o.admitted) ls v

  -- the same index, and a node of the graph that the state stands for
  pub node_now : node (stands g sc) v ≡ node g v
  node_now = ap (λ i. i + 1 + v) (stands_alike g sc o.admitted).same_I

  pub within_now : v < (stands g sc).N
  within_now = omega (arith, (stands_alike g sc o.admitted).same_N)

  -- what `count_after` asks
  pub asked : (n : NodeNumbers) → n ≡ numbers_of (stands g sc) ls v → (m c : ℕ) → m < moves_at g ls (node g v) → c ≡ C (stands g sc)
      → Counted n × (m < n.moves) × (cost_of n 0 ≤ c) × (c ≤ 304096)
  asked n e m c h q =
      let adm = stands_admitted g sc o.admitted in (
        subst Counted (sym e) (numbers_low (stands g sc) ls v adm),
        omega (arith, moves_now n e, h),
        omega (arith, ap (λ x. cost_of x 0) e, q, cost_within (stands g sc) ls adm v within_now),
        omega (arith, q, C_few (stands g sc) adm),
      )

  pub counted_now : (n : NodeNumbers) → n ≡ numbers_of (stands g sc) ls v → Counted n
  counted_now n e = subst Counted (sym e) (numbers_low (stands g sc) ls v (stands_admitted g sc o.admitted))

  -- and what its answer says
  pub counted_is : (n : NodeNumbers) → n ≡ numbers_of (stands g sc) ls v → (m c r : ℕ) → c ≡ C (stands g sc) → r + cost_of n 0 ≡ c + cost_of n m
      → r ≡ C (apply (stands g sc) (at none (node g v) m))
  counted_is n e m c r q w =
      count_is (stands g sc) ls (stands_admitted g sc o.admitted) v within_now m c r q (subst (λ x. r + cost_of x 0 ≡ c + cost_of x m) e w) ∙
      ap (λ u. C (apply (stands g sc) (at none u m))) node_now

  -- the first least move is the best of the node
  module _ (n : NodeNumbers) (e : n ≡ numbers_of (stands g sc) ls v) (m : ℕ) (f : FirstBelow (cost_of n) n.moves m) where
    pub first_fits : m < moves_at g ls (node g v)
    first_fits = omega (arith, f.below, moves_now n e)

    pub first_now : FirstBelow (cost_of (numbers_of (stands g sc) ls v)) (moves_at (stands g sc) ls (node (stands g sc) v)) m
    unfolding numbers_of
    first_now = subst (λ x. FirstBelow (cost_of x) x.moves m) e f

    best_now : apply (stands g sc) (at none (node g v) m) ≡ moved (stands g sc) (node g v ∷ []) (best_at (stands g sc) ls (node g v ∷ []))
    unfolding moved put
    best_now =
        subst (λ u. apply (stands g sc) (at none u m) ≡ apply (stands g sc) (put none (u ∷ []) (best_at (stands g sc) ls (u ∷ [])))) node_now
        (ap (λ l. apply (stands g sc) (put none (node (stands g sc) v ∷ []) l)) (node_best (stands g sc) ls (stands_admitted g sc o.admitted) v within_now m first_now))

    pub node_made : (sc' : List ℕ) (r : ℕ) → Made sc g sc' (apply (stands g sc) (at none (node g v) m)) r
        → Made sc g sc' (moved (stands g sc) (node g v ∷ []) (best_at (stands g sc) ls (node g v ∷ []))) r
    node_made sc' r h = subst (λ k. Made sc g sc' k r) best_now h

-- no move made
pub made_none : (g : Graph) (sc : List ℕ) → Ordered g sc → (u m c : ℕ) → m ≡ 0 → c ≡ C (stands g sc) → Made sc g sc (apply (stands g sc) (at none u m)) c
made_none g sc o u m c z q =
    let e : apply (stands g sc) (at none u m) ≡ stands g sc =
    ap (λ k. apply (stands g sc) (at none u k)) z ∙ apply_zero (stands g sc) u (stands_admitted g sc o.admitted) in
    record {
      became = record { ordered = o; stands_for = sym e; kept = kept_same sc };
      count = q ∙ sym (ap C e);
    }
