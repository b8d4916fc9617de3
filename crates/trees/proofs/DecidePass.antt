-- The moves of a tree by falling index, each stored where the node's costs stood: it is the first least one under the moves stored
-- above it, and all together are the tree's best. From the theorem on decided moves, the laws of the pass and those on states.
use mathlib.Core.Path.{◌≡◌, refl, sym, ap, ◌∙◌}
use mathlib.Core.Bool.{Bool, true, false}
use mathlib.Core.List.{List}
use mathlib.Core.Logic.{⊎_elim, ◌≢◌}
use Prim.Native.Nat.{ℕ, suc, ◌+◌, ◌-◌, ◌*◌, ◌/◌, ◌≤◌, ◌<◌}
use native.Mathlib.Omega.{arith}
use Rattle.graph.specs.Graph.{Graph, mark, node, word, is_xor}
use Rattle.graph.specs.Count.{readers}
use Rattle.graph.specs.Admission.{Admitted}
use Rattle.graph.proofs.Cases.{eq_or_ne}
use Rattle.graph.proofs.Tests.{equal, unequal}
use Rattle.choice.specs.Inner.{FirstBelow}
use Rattle.moves.specs.Rows.{moves_at}
use Rattle.moves.specs.Apply.{Choice, own}
use Rattle.moves.specs.Tree.{is_root, place, root_of}
use Rattle.moves.specs.Cost.{inner, word_costs, move_cost, root_cost, shown, shows, base_cost}
use Rattle.moves.specs.Decide.{cost_with}
use Rattle.moves.proofs.Local.{with_named}
use Rattle.moves.proofs.Moves.{moves_no_more}
use Rattle.moves.proofs.NodeCosts.{move_is, root_is}
use Rattle.moves.proofs.Readers.{root_of_root, root_of_inner, not_root}
use Rattle.moves.proofs.TreeBest.{reader_node, tree_best}
use Rattle.state.specs.State.{field, stands, Ordered}
use Rattle.state.proofs.Alike.{alike_xor, alike_moves_at}
use Rattle.state.proofs.Stands.{stands_alike}
use Rattle.trees.specs.Costing.{inner_at, cost_at, tree_cost, CostedBelow}
use Rattle.trees.specs.Deciding.{moves_in, shows_at, odd_at, ReaderDecided, TreeDecided}
use Rattle.trees.proofs.CostTable.{costs_hold}
use Rattle.trees.proofs.Passes.{FallenFrom, LooksUp}
use Rattle.trees.proofs.LinkSteps.{placed_root, placed_other, placed_low, other_if}
use Rattle.trees.proofs.Shown.{one_reader}
use Rattle.trees.proofs.Ready.{Ready, ready_costs, field_kept, stands_costs, inner_same, named_below, named_in, stands_I, stands_N}

-- the same first least move, the cost being the same
first_as : {f f' : ℕ → ℕ} {n m : ℕ} → f ≡ f' → FirstBelow f n m → FirstBelow f' n m
first_as p t = rw (← p) t

first_at : (sc : List ℕ) (v a b m : ℕ) (x y : Bool) (n n' : ℕ) (k l : Graph) (i j : ℕ) → x ≡ y → n ≡ n' → k ≡ l → i ≡ j
    → FirstBelow (cost_with x (word_costs k (inner_at i sc) (cost_at i sc) v) a b) n m → FirstBelow (cost_with y (word_costs l (inner_at j sc) (cost_at j sc) v) a b) n' m
first_at sc v a b m x y n n' k l i j p e q s t = rw (← p, ← e, ← q, ← s) t

shows_bit : (h : Graph) (d : ℕ → ℕ) (u : ℕ) → shows h d u ≤ 1
unfolding shows
shows_bit h d u = omega arith

module _ (h : Graph) (sc : List ℕ) where
  pub moves_at_lem : (v : ℕ) → moves_in h.I sc (node h v) ≡ field sc v 4
  unfolding moves_in
  moves_at_lem v = let e : node h v - (h.I + 1) ≡ v = omega arith in rw e

same_cost : (h : Graph) (sc₁ sc : List ℕ) (w s : ℕ) → field sc w 4 ≡ field sc₁ w 4 → cost_at h.I sc (node h w) s ≡ cost_at h.I sc₁ (node h w) s
unfolding cost_at
same_cost h sc₁ sc w s e = let q : node h w - (h.I + 1) ≡ w = omega arith in rw (q, e)

-- x is the first least move of node v, those above it being d's
pub record MoveRight (h : Graph) (ls : List ℕ) (r : ℕ) (d : Choice) (v x : ℕ) : Type 0 where
  pub top : v ≡ r → FirstBelow (root_cost h (inner h) (tree_cost h ls) v) (moves_at h ls (node h v)) x
  pub rest : v ≢ r → FirstBelow (move_cost h (inner h) (tree_cost h ls) v (shows h d (node h v))) (moves_at h ls (node h v)) x

module _ (h : Graph) (ls sc₁ : List ℕ) (rd : Ready h sc₁) (r : ℕ) (rn : r < h.N) (rt : is_root h (node h r) ≡ true) where
  adm : Admitted h
  adm = rd.admitted

  shows_local : (d d' : Choice) (v : ℕ) → v < h.N → is_root h (node h v) ≡ false → ((u : ℕ) → node h v < u → d u ≡ d' u) → shows h d (node h v) ≡ shows h d' (node h v)
  unfolding shows own
  shows_local d d' v b s same = rw (same (node h (place h (node h v) / 3)) (reader_node h adm (node h v) s).1)

  pub moves_look : LooksUp h r (MoveRight h ls r)
  moves_look d d' v x b t same m =
      record {
        top = m.top;
        rest = λ z. rw (← shows_local d d' v b (not_root h adm (node h r) (node h v) t (λ q. z (omega arith))) same) (m.rest z);
      }

  -- a decided node has one of its moves
  pub moves_fit : (n : ℕ) (sc : List ℕ) → FallenFrom h (MoveRight h ls r) sc₁ r n sc → (v : ℕ) → n ≤ v → v < h.N → root_of h (node h v) ≡ node h r → field sc v 4 < moves_at h ls (node h v)
  moves_fit n sc mf v k l t =
      let m = mf.done v k l t in
      ⊎_elim (λ (e : v ≡ r). (m.top e).below) (λ (e : v ≢ r). (m.rest e).below) (eq_or_ne v r)

  -- all decided
  pub moves_all : (sc : List ℕ) → FallenFrom h (MoveRight h ls r) sc₁ r 0 sc → TreeDecided h ls (node h r) sc
  moves_all sc mf =
      record {
        permitted = λ v l t. moves_fit 0 sc mf v (omega arith) l t;
        best =
            tree_best h ls (node h r) (tree_cost h ls) (base_cost h ls (inner h) (tree_cost h ls)) (moves_in h.I sc) adm (record { after_inputs = omega arith; within = omega arith; root = rt }) (costs_hold h ls adm)
            (record {
              top = λ v e. let q : v ≡ r = omega arith in rw (q, moves_at_lem h sc r) ((mf.done r (omega arith) rn (root_of_root h adm (node h r) rt)).top refl);
              rest = λ v l t z. rw (moves_at_lem h sc v) ((mf.done v (omega arith) l t).rest (λ q. z (rw q)));
            });
      }

  -- node v of the tree, all above it decided
  module _ (g : Graph) (o : Ordered g sc₁) (eh : stands g sc₁ ≡ h) (cd : CostedBelow h ls sc₁ (node h r) r) (v : ℕ) (vr : v ≤ r) (here : root_of h (node h v) ≡ node h r) (sc : List ℕ)
      (mf : FallenFrom h (MoveRight h ls r) sc₁ r (suc v) sc) where
    below : v < h.N
    below = omega arith

    ready : Ready h sc
    ready = ready_costs g sc₁ sc mf.only h rd

    same_I : g.I ≡ h.I
    same_I = sym (stands_I g sc₁) ∙ ap (λ x. x.I) eh

    same_N : g.N ≡ h.N
    same_N = sym (stands_N g sc₁) ∙ ap (λ x. x.N) eh

    same_kind : (w : ℕ) → is_xor g w ≡ is_xor h w
    same_kind w = sym (alike_xor g (stands g sc₁) (stands_alike g sc₁ o.admitted) w) ∙ ap (λ z. is_xor z w) eh

    same_moves : (w : ℕ) → moves_at g ls (node g w) ≡ moves_at h ls (node h w)
    same_moves w = sym (alike_moves_at g (stands g sc₁) (stands_alike g sc₁ o.admitted) ls w) ∙ ap (λ z. moves_at z ls (node z w)) eh

    stands_now : stands g sc ≡ h
    stands_now = stands_costs g sc₁ sc mf.only ∙ eh

    no_root : v ≢ r → is_root h (node h v) ≡ false
    no_root z = not_root h adm (node h r) (node h v) here (λ q. z (omega arith))

    -- its reader is decided
    above : is_root h (node h v) ≡ false → (field sc v 3 ≡ place h (node h v)) × (v < place h (node h v) / 3) × (place h (node h v) / 3 < h.N) × (root_of h (node h (place h (node h v) / 3)) ≡ node h r)
    above s =
        let a = reader_node h adm (node h v) s in
        (placed_other h adm sc ready.placed v below s, omega arith, a.2, ap (root_of h) (sym a.0) ∙ sym (root_of_inner h adm (node h v) (omega arith) (omega arith) s) ∙ here)

    pub reader_decided : ReaderDecided g sc v
    reader_decided d =
        let a = above (other_if h adm sc ready.placed v below d) in
        let w : ℕ = place h (node h v) / 3 in
        rw a.0 (omega (arith, same_moves w, moves_fit (suc v) sc mf w a.1 a.2 a.3, moves_no_more g ls (node g w)))

    odd_root : v ≡ r → odd_at g sc v ≡ shown h (node h v) 0
    unfolding odd_at
    odd_root z =
        let e : field sc v 1 ≡ shown h (node h v) 0 =
        field_kept g sc₁ sc mf.only v 1 (omega arith) (λ q. omega arith) ∙ o.odd v (rw same_N below) ∙ ap (λ x. shown x (node g v) 0) eh ∙ ap (λ x. shown h (x + 1 + v) 0) same_I in
        sym (equal (field sc v 3) mark (field sc v 1) (shows_at g sc (field sc v 3)) (placed_root h adm sc ready.placed v below (rw z rt)) (sym e))

    odd_other : v ≢ r → odd_at g sc v ≡ shows h (moves_in h.I sc) (node h v)
    unfolding odd_at shows_at shows own
    odd_other z =
        let s = no_root z in
        let a = above s in
        let p : ℕ = place h (node h v) in
        sym (unequal (field sc v 3) mark (field sc v 1) (shows_at g sc (field sc v 3)) (placed_low h adm sc ready.placed v below s)
        (rw (a.0, stands_now, same_kind (p / 3), moves_at_lem h sc (p / 3))))

    numbers : (a b : ℕ) → cost_with (is_xor h v) (word_costs h (inner_at h.I sc) (cost_at h.I sc) v) a b ≡ cost_with (is_xor h v) (word_costs h (inner h) (tree_cost h ls) v) a b
    numbers =
        with_named ls h h (inner_at h.I sc) (inner h) (cost_at h.I sc) (tree_cost h ls) v refl refl (λ i l. refl) (λ i l. refl)
        (λ i l e. inner_same h sc ready _ (omega (arith, named_below h adm v i below l e)))
        (λ i s l e n m.
        let a = named_in h adm v i below l e n in
        let b = named_below h adm v i below l e in
        let u : ℕ = word h (3 * v + i) / 2 in
        let w : ℕ = u - (h.I + 1) in
        let q : node h w ≡ u = omega arith in
        (rw q at (cost_kept w s (omega arith) ∙ cd w s (omega arith) m (rw q (a.1 ∙ here)))))
      where
        cost_kept : (w s : ℕ) → w < v → cost_at h.I sc (node h w) s ≡ cost_at h.I sc₁ (node h w) s
        cost_kept w s l = same_cost h sc₁ sc w s (mf.under w (omega arith))

    module _ (m i : ℕ) (x : Bool) (n : ℕ) (ei : i ≡ g.I) (ex : x ≡ is_xor g v) (en : n ≡ moves_at g ls (node g v))
        (fb : FirstBelow (cost_with x (word_costs (stands g sc) (inner_at i sc) (cost_at i sc) v) (field sc v 0) (odd_at g sc v)) n m) where
      found : FirstBelow (cost_with (is_xor h v) (word_costs h (inner h) (tree_cost h ls) v) (field sc v 0) (odd_at g sc v)) (moves_at h ls (node h v)) m
      found =
          first_as (numbers (field sc v 0) (odd_at g sc v))
          (first_at sc v (field sc v 0) (odd_at g sc v) m x (is_xor h v) n (moves_at h ls (node h v)) (stands g sc) h i h.I (ex ∙ same_kind v) (en ∙ same_moves v) stands_now (ei ∙ same_I) fb)

      found_other : v ≢ r → FirstBelow (move_cost h (inner h) (tree_cost h ls) v (shows h (moves_in h.I sc) (node h v))) (moves_at h ls (node h v)) m
      found_other z =
          first_as (ap (λ a. cost_with (is_xor h v) (word_costs h (inner h) (tree_cost h ls) v) a (odd_at g sc v)) (ready.reads v below ∙ one_reader h (node h v) (no_root z)) ∙
          ap (cost_with (is_xor h v) (word_costs h (inner h) (tree_cost h ls) v) 1) (odd_other z) ∙
          move_is h (inner h) (tree_cost h ls) v (shows h (moves_in h.I sc) (node h v)) (omega (arith, shows_bit h (moves_in h.I sc) (node h v))))
          found

      found_root : v ≡ r → FirstBelow (root_cost h (inner h) (tree_cost h ls) v) (moves_at h ls (node h v)) m
      found_root z =
          first_as (ap (λ a. cost_with (is_xor h v) (word_costs h (inner h) (tree_cost h ls) v) a (odd_at g sc v)) (ready.reads v below) ∙
          ap (cost_with (is_xor h v) (word_costs h (inner h) (tree_cost h ls) v) (readers h (node h v))) (odd_root z) ∙ root_is h (inner h) (tree_cost h ls) v)
          found

      pub move_right : MoveRight h ls r (moves_in h.I sc) v m
      move_right = record { top = found_root; rest = found_other }
