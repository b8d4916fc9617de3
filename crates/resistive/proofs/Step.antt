-- M-109's potential, one node decided: its family and its reader's are all that changes; and the least of these is what the
-- reader's family was.
use mathlib.Core.Path.{◌≡◌, sym, ap, ◌∙◌, fun_ext}
use mathlib.Core.Bool.{Bool, true, false, cond}
use mathlib.Core.Logic.{◌⊎◌, inl, inr, ⊎_elim, ◌≢◌}
use Prim.Native.Nat.{ℕ, suc, ◌+◌, ◌*◌, ◌/◌, ◌%◌, ◌≤◌, ◌<◌}
use native.Mathlib.Omega.{arith}
use borrow.Author.Tests.{eq-eqb}
use lib.Dec.{eqb}
use Rattle.graph.specs.Admission.{Admitted}
use Rattle.graph.specs.Count.{output_adds}
use Rattle.graph.specs.Finite.{sum}
use Rattle.graph.specs.Graph.{Graph, is_edge, is_xor, node, word}
use Rattle.moves.specs.Apply.{Choice, seen, apply, at}
use Rattle.moves.specs.Cost.{inner, pick}
use Rattle.resistive.specs.Family.{lowest, local_key, turned, family, below, KeyCosts}
use Rattle.moves.specs.Rows.{flag}
use Rattle.moves.specs.Tree.{is_root, place, root_of}
use Rattle.graph.proofs.Cases.{eq_or_ne, lt_or_le}
use Rattle.graph.proofs.Finite.{sum_same, sum_but_two}
use Rattle.moves.proofs.Changed.{at_same, at_other, seen_other, seen_none}
use Rattle.moves.proofs.Compose.{seen_node, seen_low}
use Rattle.moves.proofs.Count.{clash}
use Rattle.resistive.proofs.Potential.{node_key, Ψ}
use Rattle.resistive.proofs.Lowest.{picked, lowest_low, lowest_met, turned_free, turned_fixed, turned_through, turned_same, out_first, out_second, out_third}
use Rattle.moves.proofs.Potential.{undecided, undecided_yes, undecided_past, undecided_same, inner_is, away_out, Off}
use Rattle.moves.proofs.Readers.{names, named_by_lem, single}
use Rattle.choice.specs.Inner.{FirstBelow}

thirds : (j : ℕ) → (j ≡ 3 * (j / 3) + 0) ⊎ ((j ≡ 3 * (j / 3) + 1) ⊎ (j ≡ 3 * (j / 3) + 2))
thirds j =
    ⊎_elim (λ (e : j % 3 ≡ 0). inl (omega arith)) (λ (e : j % 3 ≢ 0).
    ⊎_elim (λ (f : j % 3 ≡ 1). inr (inl (omega arith))) (λ (f : j % 3 ≢ 1). inr (inr (omega arith))) (eq_or_ne (j % 3) 1))
    (eq_or_ne (j % 3) 0)

-- only what the words of v name matters
pub family_same : (g : Graph) (z : Bool) (q q' : ℕ → Bool) (s s' : ℕ → ℕ) (c : ℕ → ℕ → ℕ) (n : ℕ → ℕ) (v k : ℕ)
    → ((i : ℕ) → i < 3 → is_edge g (3 * v + i) ≡ true → q (word g (3 * v + i) / 2) ≡ q' (word g (3 * v + i) / 2))
    → ((i : ℕ) → i < 3 → is_edge g (3 * v + i) ≡ true → q (word g (3 * v + i) / 2) ≡ false → s (word g (3 * v + i) / 2) ≡ s' (word g (3 * v + i) / 2))
    → family g z q s c n v k ≡ family g z q' s' c n v k
unfolding family
family_same g z q q' s s' c n v k a b =
    rw (
      turned_same g q q' s s' c n (3 * v + 0) (a 0 (omega arith)) (b 0 (omega arith)),
      turned_same g q q' s s' c n (3 * v + 1) (a 1 (omega arith)) (b 1 (omega arith)),
      turned_same g q q' s s' c n (3 * v + 2) (a 2 (omega arith)) (b 2 (omega arith)),
    )

module _ (g : Graph) (c : ℕ → ℕ → ℕ) (tn : ℕ → ℕ) (r : ℕ) (adm : Admitted g) where
  -- a node outside the tree
  node_other : (n : ℕ) (d : Choice) (v : ℕ) → root_of g (node g n) ≢ r → node_key g c tn r (suc n) d v ≡ node_key g c tn r n d v
  unfolding node_key
  node_other n d v h =
      let s : undecided g r (suc n) ≡ undecided g r n = fun_ext (λ u. undecided_same g r n u (λ e. rw e h)) in
      rw s

  pub Ψ_other : (n : ℕ) (d : Choice) → root_of g (node g n) ≢ r → Ψ g c tn r (suc n) d ≡ Ψ g c tn r n d
  unfolding Ψ
  Ψ_other n d h = ap (λ x. x + sum g.O (output_adds (apply g d))) (sum_same g.N _ _ (λ v l. node_other n d v h))

  module _ (n : ℕ) (h : n < g.N) (t : root_of g (node g n) ≡ r) (d : Choice) (off : Off g r d) where
    -- how all are turned once n has the move k
    pub seen_at : (k : ℕ) → seen g (at d (node g n) k) ≡ at (seen g d) (node g n) (flag (is_xor g n) k 3)
    seen_at k =
        fun_ext
        (λ u.
        ⊎_elim
        (λ (e : u ≡ node g n).
        rw e (seen_node g (at d (node g n) k) n h ∙ ap (λ x. flag (is_xor g n) x 3) (at_same d (node g n) k) ∙ sym (at_same (seen g d) (node g n) (flag (is_xor g n) k 3))))
        (λ (e : u ≢ node g n). seen_other d (node g n) k g u e ∙ sym (at_other (seen g d) (node g n) (flag (is_xor g n) k 3) u e))
        (eq_or_ne u (node g n)))

    -- the family of n itself
    pub own_key : (k : ℕ) → node_key g c tn r n (at d (node g n) k) n ≡ below g c tn n k
    unfolding node_key below
    own_key k =
        rw (undecided_past g r n (node g n) (omega arith), at_same d (node g n) k, eq-eqb (root_of g (node g n)) r t)
        (family_same g true (undecided g r n) (inner g) (seen g (at d (node g n) k)) (λ u. 0) c tn n k
        (λ i l e. inner_is g c r adm n h t i l e)
        (λ i l e y.
        let u : ℕ = word g (3 * n + i) / 2 in
        let lo : u < node g n = omega (arith, adm.below (3 * n + i) (omega arith) e) in
        seen_other d (node g n) k g u (λ z. omega arith) ∙
        ⊎_elim
        (λ (p : g.I < u). seen_none g d u (off u (λ w. clash (undecided_yes g r n u p lo w) y)))
        (λ (p : u ≤ g.I). seen_low g d u p)
        (lt_or_le g.I u)))

    module _ (s : is_root g (node g n) ≡ false) where
      -- its reader, and the only word that names it
      abbrev p : ℕ
      p = place g (node g n) / 3

      at_place : (is_edge g (place g (node g n)) ≡ true) × (word g (place g (node g n)) / 2 ≡ node g n) × (place g (node g n) < 3 * g.N) × (n < p)
      at_place =
          let o = (single g (node g n) s).at in
          let m = names g (node g n) (place g (node g n)) o.passes in
          (m.0, m.1, o.below, omega (arith, adm.below (place g (node g n)) o.below m.0, m.1))

      only_there : (j : ℕ) → j < 3 * g.N → is_edge g j ≡ true → j ≢ place g (node g n) → word g j / 2 ≢ node g n
      only_there j l e q z = q ((single g (node g n) s).at.only j l (named_by_lem g (node g n) j e z))

      own_before : node_key g c tn r (suc n) d n ≡ 0
      unfolding node_key
      own_before = rw (undecided_yes g r (suc n) (node g n) (omega arith) (omega arith) t)

      away_node : (k v : ℕ) → v < g.N → v ≢ n → v ≢ p → node_key g c tn r (suc n) d v ≡ node_key g c tn r n (at d (node g n) k) v
      unfolding node_key
      away_node k v l a b =
          let other : (i : ℕ) → i < 3 → is_edge g (3 * v + i) ≡ true → word g (3 * v + i) / 2 ≢ node g n =
          λ i j e. only_there (3 * v + i) (omega arith) e (λ z. b (omega arith)) in
          rw (undecided_same g r n (node g v) (λ z. absurd (a (omega arith))), at_other d (node g n) k (node g v) (λ z. a (omega arith)))
          (ap (cond (undecided g r n (node g v)) 0)
          (family_same g (eqb (root_of g (node g v)) r) (undecided g r (suc n)) (undecided g r n) (seen g d) (seen g (at d (node g n) k)) c tn v (d (node g v))
          (λ i j e. undecided_same g r n (word g (3 * v + i) / 2) (λ z. absurd (other i j e z)))
          (λ i j e y. sym (seen_other d (node g n) k g (word g (3 * v + i) / 2) (other i j e)))))

      -- the step
      pub Ψ_step : (k : ℕ) → Ψ g c tn r n (at d (node g n) k) + node_key g c tn r (suc n) d p
          ≡ Ψ g c tn r (suc n) d + (node_key g c tn r n (at d (node g n) k) n + node_key g c tn r n (at d (node g n) k) p)
      unfolding Ψ
      Ψ_step k =
          let a = at_place in
          let w = sum_but_two g.N (node_key g c tn r (suc n) d) (node_key g c tn r n (at d (node g n) k)) n p h (omega arith) (λ z. omega arith)
          (λ v l x y. away_node k v l x y) in
          let os = sum_same g.O _ _ (λ j l. away_out g c r adm n h t d off k j l ((single g (node g n) s).no_out j l)) in
          omega (arith, w, os, own_before)

      -- the reader's family, n turned t times
      unfoldable pub reader_key : ℕ → ℕ
      reader_key t = family g (eqb (root_of g (node g p)) r) (undecided g r n) (at (seen g d) (node g n) t) c tn p (d (node g p))

      pub reader_after : (k : ℕ) → node_key g c tn r n (at d (node g n) k) p ≡ reader_key (flag (is_xor g n) k 3)
      unfolding node_key reader_key
      reader_after k =
          let a = at_place in
          rw (undecided_past g r n (node g p) (omega arith), at_other d (node g n) k (node g p) (λ z. omega arith), seen_at k)

      module _ (pos : (u : ℕ) → 0 < tn u) where
        -- at the word that names n, and at any other
        free_there : (e : ℕ → ℕ) → turned g (undecided g r (suc n)) (seen g d) c tn (place g (node g n)) e ≡ lowest (tn (node g n)) (λ t. c (node g n) t + e t)
        free_there e =
            let a = at_place in
            rw a.1 at (turned_free g (undecided g r (suc n)) (seen g d) c tn (place g (node g n)) e a.0
            (rw a.1 (undecided_yes g r (suc n) (node g n) (omega arith) (omega arith) t)))

        set_there : (x : ℕ) (e : ℕ → ℕ) → turned g (undecided g r n) (at (seen g d) (node g n) x) c tn (place g (node g n)) e ≡ e x
        set_there x e =
            let a = at_place in
            turned_fixed g (undecided g r n) (at (seen g d) (node g n) x) c tn (place g (node g n)) e a.0 (rw a.1 (undecided_past g r n (node g n) (omega arith))) ∙
            ap e (rw a.1 (at_same (seen g d) (node g n) x))

        still_there : (j : ℕ) → j < 3 * g.N → j ≢ place g (node g n) → (x : ℕ)
            → turned g (undecided g r n) (at (seen g d) (node g n) x) c tn j ≡ turned g (undecided g r (suc n)) (seen g d) c tn j
        still_there j l q x =
            turned_same g (undecided g r n) (undecided g r (suc n)) (at (seen g d) (node g n) x) (seen g d) c tn j
            (λ e. sym (undecided_same g r n (word g j / 2) (λ z. absurd (only_there j l e q z))))
            (λ e y. at_other (seen g d) (node g n) x (word g j / 2) (only_there j l e q))

        reader_before : node_key g c tn r (suc n) d p ≡ lowest (tn (node g n)) (λ t. c (node g n) t + reader_key t)
        unfolding node_key reader_key family
        reader_before =
            let a = at_place in
            let T : ℕ → (ℕ → ℕ) → ℕ = turned g (undecided g r (suc n)) (seen g d) c tn in
            let T' : ℕ → ℕ → (ℕ → ℕ) → ℕ = λ j x. turned g (undecided g r n) (at (seen g d) (node g n) x) c tn j in
            let L : ℕ → ℕ → ℕ → ℕ = λ x y z.
            local_key g (eqb (root_of g (node g p)) r) p (flag (is_xor g p) (d (node g p)) 0 + x) (flag (is_xor g p) (d (node g p)) 1 + y) (flag (is_xor g p) (d (node g p)) 2 + z) in
            rw (undecided_past g r (suc n) (node g p) (omega arith))
            (⊎_elim
            (λ (e : place g (node g n) ≡ 3 * p + 0).
            out_first (tn (node g n)) (pos (node g n)) (c (node g n)) (T (3 * p + 0)) (T (3 * p + 1)) (T (3 * p + 2)) (T' (3 * p + 0)) (T' (3 * p + 1)) (T' (3 * p + 2)) L
            (rw e at free_there)
            (rw e at set_there)
            (still_there (3 * p + 1) (omega arith) (λ z. omega arith))
            (still_there (3 * p + 2) (omega arith) (λ z. omega arith)))
            (⊎_elim
            (λ (e : place g (node g n) ≡ 3 * p + 1).
            out_second (tn (node g n)) (pos (node g n)) (c (node g n)) (T (3 * p + 0)) (T (3 * p + 1)) (T (3 * p + 2)) (T' (3 * p + 0)) (T' (3 * p + 1)) (T' (3 * p + 2)) L
            (turned_through g (undecided g r (suc n)) (seen g d) c tn pos (3 * p + 0))
            (rw e at free_there)
            (rw e at set_there)
            (still_there (3 * p + 0) (omega arith) (λ z. omega arith))
            (still_there (3 * p + 2) (omega arith) (λ z. omega arith)))
            (λ (e : place g (node g n) ≡ 3 * p + 2).
            out_third (tn (node g n)) (pos (node g n)) (c (node g n)) (T (3 * p + 0)) (T (3 * p + 1)) (T (3 * p + 2)) (T' (3 * p + 0)) (T' (3 * p + 1)) (T' (3 * p + 2)) L
            (turned_through g (undecided g r (suc n)) (seen g d) c tn pos (3 * p + 0))
            (turned_through g (undecided g r (suc n)) (seen g d) c tn pos (3 * p + 1))
            (rw e at free_there)
            (rw e at set_there)
            (still_there (3 * p + 0) (omega arith) (λ z. omega arith))
            (still_there (3 * p + 1) (omega arith) (λ z. omega arith))))
            (thirds (place g (node g n))))

        -- the least over the moves of n of both families is the reader's as it was
        pub tight_key : (mv o : ℕ → ℕ) → KeyCosts g mv c tn o → (m : ℕ)
            → FirstBelow (λ k. node_key g c tn r n (at d (node g n) k) n + node_key g c tn r n (at d (node g n) k) p) (mv (node g n)) m
            → node_key g c tn r (suc n) d p + o n ≡ node_key g c tn r n (at d (node g n) m) n + node_key g c tn r n (at d (node g n) m) p
        tight_key mv o cs m b =
            let F : ℕ → ℕ = λ t. c (node g n) t + reader_key t in
            let x : ℕ = pick F (tn (node g n)) in
            let k = cs.met n x h s (picked (tn (node g n)) F (pos (node g n))).below in
            omega (
              arith,
              reader_before,
              lowest_met (tn (node g n)) F,
              lowest_low (tn (node g n)) F (pos (node g n)) (flag (is_xor g n) m 3) (cs.has n m h s b.below),
              cs.low n m h s b.below,
              k.3,
              own_key m,
              own_key k.0,
              reader_after m,
              reader_after k.0,
              ap reader_key k.2,
              b.low k.0 k.1,
            )
