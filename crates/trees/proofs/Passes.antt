-- Both passes along the links of a tree, for any call on one: what is stored in field 4 of its nodes by rising index, and by falling index in its
-- place. What is right to store is a parameter, rising by itself and falling under what is stored above. From the laws on links.
use mathlib.Core.Path.{◌≡◌, refl, sym, ◌∙◌}
use mathlib.Core.Bool.{true, false}
use mathlib.Core.List.{List}
use mathlib.Core.Logic.{⊎_elim, ◌≢◌}
use Prim.Native.Nat.{ℕ, suc, ◌+◌, ◌-◌, ◌*◌, ◌≤◌, ◌<◌}
use native.Mathlib.Omega.{arith}
use native.Mathlib.Nat.{eq-or-lt_of_le}
use Rattle.graph.specs.Admission.{Admitted}
use Rattle.graph.specs.Graph.{Graph, mark, node}
use Rattle.graph.proofs.Cases.{lt_or_le}
use Rattle.moves.specs.Apply.{Choice}
use Rattle.moves.specs.Tree.{is_root, root_of}
use Rattle.moves.proofs.Count.{clash}
use Rattle.moves.proofs.Readers.{root_of_root, root_of_above, not_root}
use Rattle.state.specs.State.{field, Neighbours}
use Rattle.trees.specs.Costing.{CostsOnly}
use Rattle.trees.specs.Deciding.{moves_in}
use Rattle.trees.specs.Filling.{Stored}
use Rattle.trees.proofs.Falling.{bound_of, bound_mark, bound_node, next_lower}
use Rattle.trees.proofs.Ready.{Ready, ready_costs}

-- x stored at node v
module _ (v x : ℕ) (sc sc' : List ℕ) (st : Stored v 4 x sc sc') where
  only_stored : (sc₀ : List ℕ) → CostsOnly sc₀ sc → CostsOnly sc₀ sc'
  only_stored sc₀ co = record { same = st.same ∙ co.same; kept = λ j d. st.old j (λ e. d (omega arith)) ∙ co.kept j d }

  other_stored : (w : ℕ) → w ≢ v → field sc' w 4 ≡ field sc w 4
  other_stored w d = st.old (8 * w + 4) (λ z. d (omega arith))

  moves_above : (i u : ℕ) → i + 1 + v < u → moves_in i sc u ≡ moves_in i sc' u
  unfolding moves_in
  moves_above i u l = sym (other_stored (u - (i + 1)) (λ z. omega arith))

-- at node v of the tree of r, those below it are done
pub record RisenTo (h : Graph) (Right : ℕ → ℕ → Type 0) (sc₀ sc : List ℕ) (r v : ℕ) : Type 0 where
  pub within : v ≤ r
  pub here : root_of h (node h v) ≡ node h r
  pub only : CostsOnly sc₀ sc
  pub done : (w : ℕ) → w < v → root_of h (node h w) ≡ node h r → Right w (field sc w 4)

module _ (h : Graph) (Right : ℕ → ℕ → Type 0) (sc₀ : List ℕ) (rd : Ready h sc₀) (r : ℕ) (rn : r < h.N) (rt : is_root h (node h r) ≡ true) where
  pub risen_begin : (v : ℕ) → v ≡ field sc₀ r 7 → RisenTo h Right sc₀ sc₀ r v
  risen_begin v e =
      let l = rd.linked.lowest r rn rt in
      record {
        within = rw e l.0;
        here = rw e l.1;
        only = record { same = refl; kept = λ j d. refl };
        done = λ x a t. absurd (rd.linked.no_lowest r rn rt x (rw e at a) t);
      }

  module _ (sc : List ℕ) (v : ℕ) (ct : RisenTo h Right sc₀ sc r v) (vr : v ≢ r) where
    pub risen_inside : v < h.N
    risen_inside = omega (arith, ct.within)

    no_root : is_root h (node h v) ≡ false
    no_root = not_root h rd.admitted (node h r) (node h v) ct.here (λ z. vr (omega arith))

    next : Neighbours h v (field sc₀ v 6)
    next = rd.linked.higher v risen_inside (λ e. clash (rd.linked.no_higher v risen_inside e) no_root)

    pub risen_ready : Ready h sc
    risen_ready = ready_costs h sc₀ sc ct.only h rd

    pub risen_step : (sc' : List ℕ) (x : ℕ) → Stored v 4 x sc sc' → Right v x → (w : ℕ) → w ≡ field sc' v 6 → RisenTo h Right sc₀ sc' r w × (v < w)
    risen_step sc' x st right w e =
        let co = only_stored v x sc sc' st sc₀ ct.only in
        let n : Neighbours h v w = rw (e ∙ co.kept (8 * v + 6) (λ z. omega arith)) next in
        let t : root_of h (node h w) ≡ node h r = n.same ∙ ct.here in (
          record {
            within = omega (arith, root_of_above h rd.admitted (node h w));
            here = t;
            only = co;
            done = λ y a c.
                ⊎_elim
                (λ (k : y < v). rw (other_stored v x sc sc' st y (λ z. omega arith)) (ct.done y k c))
                (λ (k : v ≤ y).
                ⊎_elim
                (λ (i : v ≡ y). rw (← i, st.new) right)
                (λ (i : v < y). absurd (n.between y i a (c ∙ sym ct.here)))
                (eq-or-lt_of_le k))
                (lt_or_le y v);
          },
          n.rising,
        )

-- the tree's nodes from n on are done; below them stands what stood there
pub record FallenFrom (h : Graph) (Right : Choice → ℕ → ℕ → Type 0) (sc₁ : List ℕ) (r n : ℕ) (sc : List ℕ) : Type 0 where
  pub only : CostsOnly sc₁ sc
  pub under : (v : ℕ) → v < n → field sc v 4 ≡ field sc₁ v 4
  pub done : (v : ℕ) → n ≤ v → v < h.N → root_of h (node h v) ≡ node h r → Right (moves_in h.I sc) v (field sc v 4)

-- and v is the next
pub record FallenTo (h : Graph) (Right : Choice → ℕ → ℕ → Type 0) (sc₁ : List ℕ) (r v : ℕ) (sc : List ℕ) : Type 0 where
  pub from : FallenFrom h Right sc₁ r (bound_of v) sc
  pub here : v ≢ mark → (v ≤ r) × (root_of h (node h v) ≡ node h r)

-- what is right at a node of the tree of r looks only at what is above it
abbrev pub LooksUp : Graph → ℕ → (Choice → ℕ → ℕ → Type 0) → Type 0
LooksUp h r Right =
    (d d' : Choice) (v x : ℕ) → v < h.N → root_of h (node h v) ≡ node h r → ((u : ℕ) → node h v < u → d u ≡ d' u) → Right d v x → Right d' v x

module _ (h : Graph) (Right : Choice → ℕ → ℕ → Type 0) (sc₁ : List ℕ) (rd : Ready h sc₁) (r : ℕ) (rn : r < h.N) (rt : is_root h (node h r) ≡ true) where
  adm : Admitted h
  adm = rd.admitted

  fallen_none : FallenFrom h Right sc₁ r (suc r) sc₁
  fallen_none =
      record {
        only = record { same = refl; kept = λ j d. refl };
        under = λ v l. refl;
        done = λ v l k t. absurd (omega (arith, root_of_above h adm (node h v)));
      }

  pub fallen_begin : (v : ℕ) → v ≡ r → FallenTo h Right sc₁ r v sc₁
  fallen_begin v e =
      let d : v ≢ mark = λ z. omega (arith, adm.few_nodes) in
      record {
        from = rw (bound_node v d, e) fallen_none;
        here = λ z. rw e (omega arith, root_of_root h adm (node h r) rt);
      }

  -- fewer nodes than n, none of the tree between
  fallen_down : (n n' : ℕ) (sc : List ℕ) → n' ≤ n → ((x : ℕ) → n' ≤ x → x < n → root_of h (node h x) ≢ node h r) → FallenFrom h Right sc₁ r n sc → FallenFrom h Right sc₁ r n' sc
  fallen_down n n' sc l free f =
      record {
        only = f.only;
        under = λ v k. f.under v (omega arith);
        done = λ v k b t. ⊎_elim (λ (a : v < n). absurd (free v k a t)) (λ (a : n ≤ v). f.done v a b t) (lt_or_le v n);
      }

  pub fallen_all : (sc : List ℕ) (v : ℕ) → FallenTo h Right sc₁ r v sc → v ≡ mark → FallenFrom h Right sc₁ r 0 sc
  fallen_all sc v f e = rw (bound_mark v e) at f.from

  module _ (sc : List ℕ) (v : ℕ) (f : FallenTo h Right sc₁ r v sc) (d : v ≢ mark) (w : ℕ) (e : w ≡ v) where
    pub fallen_low : w ≤ r
    fallen_low = rw e (f.here d).0

    pub fallen_here : root_of h (node h w) ≡ node h r
    fallen_here = rw e (f.here d).1

    pub fallen_passed : FallenFrom h Right sc₁ r (suc w) sc
    fallen_passed = rw (e, ← bound_node v d) f.from

    module _ (looks : LooksUp h r Right) (m : ℕ) (sc' : List ℕ) (st : Stored w 4 m sc sc') (right : Right (moves_in h.I sc) w m) where
      fallen_more : FallenFrom h Right sc₁ r w sc'
      fallen_more =
          record {
            only = only_stored w m sc sc' st sc₁ fallen_passed.only;
            under = λ y l. other_stored w m sc sc' st y (λ z. omega arith) ∙ fallen_passed.under y (omega arith);
            done = λ y l b t.
                looks (moves_in h.I sc) (moves_in h.I sc') y (field sc' y 4) b t (λ u a. moves_above w m sc sc' st h.I u (omega arith))
                (⊎_elim
                (λ (i : w ≡ y). rw (← i, st.new) right)
                (λ (i : w < y). rw (other_stored w m sc sc' st y (λ z. omega arith)) (fallen_passed.done y i b t))
                (eq-or-lt_of_le l));
          }

      pub fallen_step : (x : ℕ) → x ≡ field sc' w 5 → FallenTo h Right sc₁ r x sc' × (bound_of x < bound_of v)
      fallen_step x q =
          let n = next_lower h sc₁ rd r w x (omega (arith, fallen_low, rn)) fallen_here (q ∙ fallen_more.only.kept _ (λ z. omega arith)) in (
            record {
              from = fallen_down w (bound_of x) sc' n.bound n.free fallen_more;
              here = λ z. (omega (arith, n.lower z, fallen_low), n.here z);
            },
            omega (arith, n.bound, bound_node v d),
          )
